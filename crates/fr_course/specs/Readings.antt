-- Numbers on an observer's clock, and ticks. The clock is straight, and within a drift of so many parts per million: for a
-- rate of one clock against the other within the drift, so many ticks are from the one to the other number on the
-- observer's clock (a *reading*), and a reading is from one number of ticks to another. None passes
-- `greatest_ticks` on either side, and the drift is at most 1,000: so no product passes 127 bits.
use Rattle.std.specs.Prelude.{ℕ, ℤ, pos, neg_ℤ, ◌+ℤ◌, ◌-ℤ◌, ◌*ℤ◌, int_lt, List, [], ◌∷◌, Option, Some, None, if◌then◌else◌}
use Rattle.std.specs.Int.{int_max, int_min}
use Rattle.fr_cluster.specs.Values.{Values, amount}
use Rattle.fr_cluster.specs.declared.names.ParamName.TheVariants as name
use Rattle.fr_time.specs.Position.{floor_of}
use Rattle.fr_bound.specs.Bounds.{cycle_change, longest_micro, nominal, shortest_micro}
use Rattle.fr_bound.specs.Checks.{least_cycle}
pub use Rattle.fr_course.specs.declared.intervals.Interval.{Interval}
pub use Rattle.fr_course.specs.Scales.{Scale}

-- a quotient rounded up; the divisor is above 0
abbrev pub ceiling_of : ℤ → ℤ → ℤ
ceiling_of n d = neg_ℤ (floor_of (neg_ℤ n) d)

-- what a million is on the slowest and on the fastest clock of a drift
abbrev pub slow_million : ℕ → ℤ
slow_million drift = pos nominal -ℤ pos drift

abbrev pub fast_million : ℕ → ℤ
fast_million drift = pos nominal +ℤ pos drift

-- the least and the greatest reading that so many ticks can be: rounded outwards
abbrev pub least_reading : ℕ → ℤ → ℤ
least_reading drift ticks =
    floor_of (ticks *ℤ (if int_lt ticks (pos 0) then fast_million drift else slow_million drift)) (pos nominal)

abbrev pub most_reading : ℕ → ℤ → ℤ
most_reading drift ticks = neg_ℤ (least_reading drift (neg_ℤ ticks))

-- the least and the greatest number of ticks that a reading can be: whole numbers
abbrev pub least_ticks : ℕ → ℤ → ℤ
least_ticks drift reading =
    ceiling_of (reading *ℤ pos nominal) (if int_lt reading (pos 0) then slow_million drift else fast_million drift)

abbrev pub most_ticks : ℕ → ℤ → ℤ
most_ticks drift reading = neg_ℤ (least_ticks drift (neg_ℤ reading))

-- what lies in both
abbrev pub meet : Interval → Interval → Interval
meet one other = record { low = int_max one.low other.low; high = int_min one.high other.high }

-- in one that may be without limits, and in another
abbrev pub meet_if : Option Interval → Interval → Interval
meet_if None other = other
meet_if (Some one) other = meet one other

-- in all of some; none without one
unfoldable pub meet_all : List Interval → Option Interval
meet_all [] = None
meet_all (one ∷ others) = Some (meet_if (meet_all others) one)

-- the most microticks of a cycle before its offset correction
abbrev pub most_cycle : Values → ℤ
most_cycle p = pos (amount p name.pMicroPerCycle) +ℤ pos (amount p name.pRateCorrectionOut)

abbrev pub reading_scale : ℕ → Values → Scale
reading_scale drift p =
    record {
      drift = drift;
      macros = p.macros;
      correction = p.correction;
      length_from = least_reading drift (pos (least_cycle p) *ℤ pos (shortest_micro p));
      length_to = most_reading drift (most_cycle p *ℤ pos (longest_micro p));
      change = most_reading drift (pos (cycle_change p));
      micro_from = least_reading drift (pos (shortest_micro p));
      micro_to = most_reading drift (pos (longest_micro p));
    }

-- the least and the greatest number of microticks that so long can be, in readings
abbrev pub micros_from : Scale → ℤ → ℤ
micros_from scale long = ceiling_of long (if int_lt long (pos 0) then scale.micro_from else scale.micro_to)

abbrev pub micros_to : Scale → ℤ → ℤ
micros_to scale long = floor_of long (if int_lt long (pos 0) then scale.micro_to else scale.micro_from)

-- all of them
abbrev pub micros_in : Scale → Interval → Interval
micros_in scale long = record { low = micros_from scale long.low; high = micros_to scale long.high }
