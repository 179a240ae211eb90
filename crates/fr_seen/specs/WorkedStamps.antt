-- A worked row: two nodes that send 2.5 microticks apart, as an observer stamps their frames by whole nanoseconds.
use Rattle.std.specs.Prelude.{ℕ, ◌≡◌, ℤ, pos, neg_ℤ, [], ◌∷◌, Option, Some, None}
use Rattle.fr_cluster.specs.Values.{Values}
use Rattle.fr_course.specs.declared.intervals.Interval.{Interval}
use Rattle.fr_course.specs.Scales.{Scale}
use Rattle.fr_course.specs.Readings.{reading_scale}
use Rattle.fr_course.specs.declared.courses.Course.{Course}
use Rattle.fr_course.specs.declared.stamps.Delays.{Delays}
use Rattle.fr_course.specs.declared.stamps.Observer.{Observer}
use Rattle.fr_course.specs.Course.{course_from, even_start, span_of, stamped}
use Rattle.fr_course.specs.Spread.{even_skew, odd_skew}
use Rattle.fr_course.specs.Terms.{offset_seen, rate_step_seen}

-- a cycle of 5 ms at a microtick of 25 ns
abbrev pub worked_values : Values
worked_values = record {
  macros = pos 5_000;
  micros = pos 200_000;
  static_slots = pos 140;
  slot_macros = pos 30;
  action_offset = pos 7;
  idle_macros = pos 800;
  words = pos 0;
  correction = pos 4_900;
  max_passive = pos 2;
  max_fatal = pos 4;
  halt_allowed = pos 1;
  to_active = pos 2;
  damping = pos 4;
  offset_limit = pos 254;
  rate_limit = pos 81;
  compensation_a = pos 0;
  compensation_b = pos 0;
  rate_bound = pos 200;
  change_bound = pos 0;
  delay_error = pos 500_000;
  nodes = [];
  slots = [];
}

-- units of a nanosecond on a clock that is never off, and frames that are under way for no time
abbrev pub worked_observer : Observer
worked_observer = record { unit = 40_000; drift = 0; error = 0 }

abbrev pub worked_delays : Delays
worked_delays = record { least = 0; most = 0; jitter = 0 }

abbrev pub worked_scale : Scale
worked_scale = reading_scale 0 worked_values

abbrev pub worked_box : ℕ → Interval
worked_box stamp = stamped worked_observer worked_delays (pos stamp)

abbrev pub worked_span : ℕ → ℕ → Interval
worked_span stamp later = span_of worked_observer worked_delays (pos stamp) (pos later)

-- the course of a node that sends at a macrotick, by both stamps of a double cycle
abbrev pub worked_course : ℕ → ℕ → ℕ → Option Course
worked_course action even odd =
    course_from worked_scale (pos action) (Some (worked_box even)) (Some (worked_box odd)) (Some (worked_span even odd))

abbrev pub interval : ℤ → ℤ → Interval
interval low high = record { low = low; high = high }

-- the course of a sender from these two stamps is this one
abbrev pub worked_as : ℕ → ℤ → ℤ → ℤ → ℤ → Course
worked_as action even even_to odd odd_to =
    record {
      action = pos action;
      even = interval even even_to;
      odd = interval odd odd_to;
      apart = interval (pos 199_999_960_000) (pos 200_000_040_000);
      length = interval (pos 199_999_960_000) (pos 200_000_040_000);
    }

abbrev pub one_first : Course
one_first = worked_as 7 (pos 280_000_000) (pos 280_040_000) (pos 200_280_000_000) (pos 200_280_040_000)

abbrev pub two_first : Course
two_first = worked_as 37 (pos 1_482_480_000) (pos 1_482_520_000) (pos 201_482_480_000) (pos 201_482_520_000)

abbrev pub one_next : Course
one_next = worked_as 7 (pos 400_281_000_000) (pos 400_281_040_000) (pos 600_281_000_000) (pos 600_281_040_000)

abbrev pub two_next : Course
two_next = worked_as 37 (pos 401_481_480_000) (pos 401_481_520_000) (pos 601_481_480_000) (pos 601_481_520_000)

-- what the eight stamps tell: the courses, the first start, the skew of each cycle, and the terms
pub record WorkedRow : Type 0 where
  pub first_of_one : worked_course 7 7_000 5_007_000 ≡ Some one_first
  pub first_of_two : worked_course 37 37_062 5_037_062 ≡ Some two_first
  pub next_of_one : worked_course 7 10_007_025 15_007_025 ≡ Some one_next
  pub next_of_two : worked_course 37 10_037_037 15_037_037 ≡ Some two_next
  pub start_of_one : even_start worked_scale one_first ≡ interval (neg_ℤ (pos 56)) (pos 1_040_256)
  pub skew_of_0 : even_skew worked_scale (one_first ∷ two_first ∷ []) ≡ record { low = pos 1_439_448; high = Some (pos 4_520_752) }
  pub skew_of_1 :
      odd_skew worked_scale (one_first ∷ two_first ∷ []) (Some (one_next ∷ two_next ∷ []))
      ≡ record { low = pos 1_439_800; high = Some (pos 5_598_648) }
  pub skew_of_2 : even_skew worked_scale (one_next ∷ two_next ∷ []) ≡ record { low = pos 0; high = Some (pos 2_520_752) }
  pub skew_of_3 : odd_skew worked_scale (one_next ∷ two_next ∷ []) None ≡ record { low = pos 0; high = None }
  pub offset_of_one :
      offset_seen worked_scale one_first one_next (Some (worked_span 5_007_000 10_007_025)) ≡ interval (pos 0) (pos 2)
  pub offset_of_two :
      offset_seen worked_scale two_first two_next (Some (worked_span 5_037_062 10_037_037)) ≡ interval (neg_ℤ (pos 2)) (pos 0)
  pub step_of_one : rate_step_seen worked_scale one_first one_next ≡ interval (pos 0) (pos 0)
