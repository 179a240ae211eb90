-- No clock of a node contradicts a run that the log is seen of: where its action points lie, and how far apart.
use Rattle.std.proofs.Common.{◌≡◌, ℕ, ◌+◌, ◌*◌, Bool, true, false, Option, Some, None, ℤ, pos, List, [], ◌∷◌, ◌++◌, refl, ap, ◌∙◌, arith}
use Rattle.std.specs.Prelude.{◌≤ℤ◌, ◌+ℤ◌, ◌-ℤ◌, Contains, int_lt, is_some, if◌then◌else◌}
use Rattle.std.specs.Int.{int_max, int_min}
use Rattle.std.specs.List.{flat_map}
use Rattle.std.specs.Option.{option_to_list}
use Rattle.std.proofs.lemmas.Int.{ints}
use Rattle.fr_base.specs.declared.channel.Channel.{Channel}
use Rattle.fr_cluster.specs.Setting.{Setting}
use Rattle.fr_cluster.specs.declared.nodes.NodeSpec.{NodeSpec}
use Rattle.fr_cluster.proofs.Elements.{Contains-here, Contains-there}
use Rattle.fr_time.specs.Slots.{action_point_of}
use Rattle.fr_history.specs.Cycles.{Cycles}
use Rattle.fr_log.specs.View.{LogView}
use Rattle.fr_course.specs.Readings.{reading_scale}
use Rattle.fr_course.specs.Course.{apart_by, course_back, course_by, course_from, course_on, is_empty}
use Rattle.fr_course.specs.declared.courses.Course.{Course}
use Rattle.fr_course.specs.declared.intervals.Interval.{Interval}
use Rattle.fr_course.specs.Scales.{Scale}
use Rattle.fr_course.specs.declared.stamps.Delays.{Delays}
use Rattle.fr_sightings.specs.Senders.{course_in, own_slot, seen_box, seen_span, sightings_in}
use Rattle.fr_sightings.specs.Sightings.{sightings_of}
use Rattle.fr_sightings.specs.declared.sighting.Sighting.{Sighting}
use Rattle.fr_seen.specs.Clocks.{StraightClock}
use Rattle.fr_seen.specs.Courses.{IsCourseThere}
use Rattle.fr_seen.proofs.Pairs.{max_left}
use Rattle.fr_seen.proofs.SenderLaws.{keyed_by}
use Rattle.fr_seen.specs.Contradictions.{IsObservedRun}
use Rattle.fr_observe.specs.Faults.{box_fault, clock_faults, limit_fault, node_faults}
use Rattle.fr_seen.proofs.SeenCourses.{course_there}

-- ---- intervals

min_left : (a b : ℤ) → int_min a b ≤ℤ a
min_left a b = by (int_lt b a) refl
  where
    from_lt : (a b : ℤ) → int_lt a b ≡ true → a ≤ℤ b
    from_lt a b is = grind (arith, ints)

    itself : (a : ℤ) → a ≤ℤ a
    itself a = omega (arith, ints)

    by : (second : Bool) → int_lt b a ≡ second → (if second then b else a) ≤ℤ a
    by true is = from_lt b a is
    by false is = itself a

-- what was cut is not empty where what it was cut to is not
before_cut : (low high from to : ℤ) → int_lt (int_min high to) (int_max low from) ≡ false → int_lt high low ≡ false
before_cut low high from to is = in_order low (int_max low from) (int_min high to) high (max_left low from) (min_left high to) is
  where
    in_order : (a b c d : ℤ) → a ≤ℤ b → c ≤ℤ d → int_lt c b ≡ false → int_lt d a ≡ false
    in_order a b c d h k is = grind (arith, ints)

-- ---- the clock of a node

module _ (scale : Scale) (action : ℤ) (cycle later node : ℕ) where
  -- by what was seen of it, where no interval of its course is empty
  clock_told_none : (early late span : Option Interval) → ((course : Course) → course_from scale action early late span ≡ Some course → IsCourseThere course)
      → option_to_list (box_fault cycle node early) ++ option_to_list (box_fault later node late) ++ option_to_list (limit_fault scale cycle node early late span) ≡ []
  clock_told_none None None span there = refl
  clock_told_none (Some even) None span there = rw (there (course_on scale action even) refl).even refl
  clock_told_none None (Some odd) span there = rw (there (course_back scale action odd) refl).odd refl
  clock_told_none (Some even) (Some odd) span there =
      let apart = apart_by scale even odd span in
      let is = there (course_by scale action even odd apart) refl in
      let in_even : is_empty even ≡ false = before_cut even.low even.high (odd.low -ℤ apart.high) (odd.high -ℤ apart.low) is.even in
      let in_odd : is_empty odd ≡ false = before_cut odd.low odd.high (even.low +ℤ apart.low) (even.high +ℤ apart.high) is.odd in
      let lies_apart : is_empty apart ≡ false = is.apart in
      rw (in_even, in_odd, lies_apart) refl

-- ---- all nodes

flat_none : {X Y : Type 0} (f : X → List Y) (xs : List X) → ((x : X) → Contains xs x → f x ≡ []) → flat_map f xs ≡ []
flat_none f [] each = refl
flat_none {Y = Y} f (x ∷ xs) each = put (f x) (flat_map f xs) (each x (Contains-here x xs)) (flat_none f xs (λ y at. each y (Contains-there x xs y at)))
  where
    put : (a b : List Y) → a ≡ [] → b ≡ [] → a ++ b ≡ []
    put a b is other = ap (λ c. c ++ b) is ∙ other

module _ (x : Setting) (h : Cycles) (base : ℕ) (delays : ℕ → Channel → Delays) (clock : ℕ → StraightClock) (l : LogView) (run : IsObservedRun x h base delays clock l) where
  abbrev Scaled : Scale
  Scaled = reading_scale l.drift x.params

  abbrev Here : ℕ → List Sighting
  Here double = sightings_in (sightings_of x.params l) double

  clock_none : (node : NodeSpec) (slot double : ℕ) → Contains x.params.nodes node → node.key ≡ Some slot → clock_faults Scaled l (Here double) double node.id ≡ []
  unfolding clock_faults course_in
  clock_none node slot double among keyed =
      clock_told_none Scaled (pos (action_point_of x.params slot)) (2 * double) (2 * double + 1) node.id
      (seen_box l (Here double) node.id (2 * double)) (seen_box l (Here double) node.id (2 * double + 1)) (seen_span l (Here double) (Here double) node.id (2 * double) (2 * double + 1))
      (λ course is. course_there x h base delays clock l run node slot double course among keyed is)

  node_none : (double : ℕ) (node : NodeSpec) → Contains x.params.nodes node → node_faults Scaled l (Here double) double node ≡ []
  node_none double node among = by (own_slot l node) refl
    where
      by : (own : Option ℕ) → own_slot l node ≡ own → (if is_some own then clock_faults Scaled l (Here double) double node.id else []) ≡ []
      by None is = refl
      by (Some slot) is = clock_none node slot double among (keyed_by x h base delays clock l run.timed.sane run.log run.seen node slot is)

  pub nodes_none : (double : ℕ) → flat_map (node_faults Scaled l (Here double) double) x.params.nodes ≡ []
  nodes_none double = flat_none (node_faults Scaled l (Here double) double) x.params.nodes (node_none double)
