-- What a node counts of another one lies where the courses of both see it: a deviation, and a rate value.
use Rattle.std.proofs.Common.{◌≡◌, ℕ, ℤ, pos, true, sym, subst, arith}
use Rattle.std.specs.Prelude.{◌+ℤ◌, ◌-ℤ◌, ◌*ℤ◌, ◌≤ℤ◌, ◌<ℤ◌}
use Rattle.std.proofs.lemmas.Int.{ints}
use Rattle.fr_base.specs.Within.{IsBetween, IsWithin}
use Rattle.fr_base.specs.declared.node_row.NodeRow.{NodeRow}
use Rattle.fr_cluster.specs.Sane.{IsSane}
use Rattle.fr_cluster.specs.Values.{Values}
use Rattle.fr_midpoint.proofs.Products.{mulz-subz}
use Rattle.fr_time.specs.Position.{grid_for}
use Rattle.fr_time.specs.Instant.{instant_of}
use Rattle.fr_bound.specs.Bounds.{arrival_error, shortest_micro}
use Rattle.fr_bound.specs.SharpBounds.{steady_error}
use Rattle.fr_bound.specs.Sync.{cycle_length_of}
use Rattle.fr_precision.specs.Instants.{gap_of}
use Rattle.fr_precision.specs.Offsets.{IsDeviation}
use Rattle.fr_precision.specs.Rows.{HasProperMicro, Sender}
use Rattle.fr_precision.specs.Steady.{between_actions, PlacesEven}
use Rattle.fr_course.specs.declared.intervals.Interval.{Interval}
use Rattle.fr_course.specs.Scales.{Scale}
use Rattle.fr_course.specs.Readings.{reading_scale}
use Rattle.fr_course.specs.Course.{between, odd_macrotick}
use Rattle.fr_seen.specs.Clocks.{HasReading, IsWithinDrift, LastsIn, ReadsIn, StraightClock, reading_at, reading_of}
use Rattle.fr_seen.specs.Courses.{even_action, odd_action}
use Rattle.fr_seen.specs.Skews.{IsOnCourse, SeenNode}
use Rattle.fr_seen.proofs.CornerLaws.{corners_lie_lem}
use Rattle.fr_seen.proofs.Doubles.{numbers_of}
use Rattle.fr_seen.proofs.Readings.{readings_have_ticks}
use Rattle.fr_seen.proofs.Shares.{reads_back}
use Rattle.fr_course.specs.Computed.{deviation_seen, measuring_of, rate_value_seen, ticks_in, ValuesAreCounted, ValuesArePlaced}

-- ---- ticks between what has readings

-- between two instants
instants_apart : (clock : StraightClock) (from to : Interval) (a b : ℤ) → ReadsIn clock from a → ReadsIn clock to b → LastsIn clock (between from to) (b -ℤ a)
instants_apart clock from to a b first second =
    subst (HasReading clock (between from to)) (apart (clock.counts *ℤ b) (clock.counts *ℤ a) (clock.counts *ℤ (b -ℤ a)) clock.zero (mulz-subz b a clock.counts))
    (reads_back clock to from (reading_at clock b) (reading_at clock a) second first)
  where
    apart : (pb pa pd z : ℤ) → pd ≡ pb -ℤ pa → (pb +ℤ z) -ℤ (pa +ℤ z) ≡ pd
    apart pb pa pd z is = omega (arith, ints, is)

-- between two lengths
lengths_apart_by : (clock : StraightClock) (from to : Interval) (a b : ℤ) → LastsIn clock from a → LastsIn clock to b → LastsIn clock (between from to) (b -ℤ a)
lengths_apart_by clock from to a b first second =
    subst (HasReading clock (between from to)) (sym (mulz-subz b a clock.counts)) (reads_back clock to from (reading_of clock b) (reading_of clock a) second first)

-- ---- microticks

-- a microtick of a node lies in its range
micro_between : (p : Values) (flutter : ℕ) (row : NodeRow) → HasProperMicro p row → IsBetween (measuring_of p flutter).shortest (measuring_of p flutter).longest row.length
micro_between p flutter row proper = record { low = proper.least; high = proper.most }

shortest_some : (p : Values) (flutter : ℕ) → IsSane p → pos 0 <ℤ (measuring_of p flutter).shortest
shortest_some p flutter sane = some (pos (shortest_micro p)) (numbers_of p sane).shortest_from
  where
    some : (a : ℤ) → pos 1 ≤ℤ a → pos 0 <ℤ a
    some a h = omega (arith, ints, h)

parted : (g e t v : ℤ) → (g -ℤ (e +ℤ t)) <ℤ v → ((g -ℤ e) -ℤ t) <ℤ v
parted g e t v is = omega (arith, ints)

-- a value that gives so many ticks from a length on, but for an error
given : (here between e v : ℤ) → IsWithin e ((here +ℤ v) -ℤ between) → IsBetween ((between -ℤ here) -ℤ e) ((between -ℤ here) +ℤ e) v
given here between e v near = record { low = omega (arith, ints, near.low); high = omega (arith, ints, near.high) }

-- ---- of two nodes whose courses hold

module _ (p : Values) (drift : ℕ) (clock : StraightClock) (sane : IsSane p) (within : IsWithinDrift drift clock) (counted : ValuesAreCounted) where
  abbrev pub scale : Scale
  scale = reading_scale drift p

  gap_seen : (receiver sender : SeenNode) → IsOnCourse p drift clock receiver → IsOnCourse p drift clock sender
      → IsBetween (ticks_in scale (between (odd_macrotick scale receiver.course sender.course.action) sender.course.odd)).low
      (ticks_in scale (between (odd_macrotick scale receiver.course sender.course.action) sender.course.odd)).high
      (gap_of p true sender.course.action sender.odd receiver.odd)
  gap_seen receiver sender on also =
      let action = sender.course.action in
      let at = (corners_lie_lem p drift clock receiver.course receiver.even receiver.odd on.seen on.holds).macroticks action also.seen.acts_to in
      readings_have_ticks drift clock (between (odd_macrotick scale receiver.course action) sender.course.odd) (gap_of p true action sender.odd receiver.odd) within
      (instants_apart clock (odd_macrotick scale receiver.course action) sender.course.odd (instant_of (grid_for p) receiver.odd true action) (odd_action p sender.odd action) at also.holds.in_odd)

  -- a deviation
  pub deviation_lies : (flutter : ℕ) (receiver sender : SeenNode) (value : ℤ) → IsOnCourse p drift clock receiver → IsOnCourse p drift clock sender
      → IsDeviation p true sender.course.action receiver.odd sender.odd value
      → IsBetween (deviation_seen scale (measuring_of p flutter) receiver.course sender.course).low (deviation_seen scale (measuring_of p flutter) receiver.course sender.course).high value
  deviation_lies flutter receiver sender value on also is =
      let gap = gap_of p true sender.course.action sender.odd receiver.odd in
      let error = pos (arrival_error p) in
      counted (measuring_of p flutter) (ticks_in scale (between (odd_macrotick scale receiver.course sender.course.action) sender.course.odd)) error receiver.odd.length gap value
      (shortest_some p flutter sane) (micro_between p flutter receiver.odd on.seen.regular.odd_micro) (gap_seen receiver sender on also)
      (parted gap error receiver.odd.length (value *ℤ receiver.odd.length) is.low) is.high

  -- a rate value
  pub rate_value_lies : ValuesArePlaced → (flutter : ℕ) (receiver sender : SeenNode) (told : Sender) (value : ℤ) → IsOnCourse p drift clock receiver → IsOnCourse p drift clock sender
      → told ≡ record { even = sender.even; odd = sender.odd; action = sender.course.action } → PlacesEven p flutter told receiver.odd value
      → IsBetween (rate_value_seen scale (measuring_of p flutter) receiver.course sender.course).low (rate_value_seen scale (measuring_of p flutter) receiver.course sender.course).high value
  rate_value_lies placed flutter receiver sender told value on also same places =
      let here = cycle_length_of p receiver.odd in
      let there = odd_action p sender.odd sender.course.action -ℤ even_action p sender.even sender.course.action in
      let micro = receiver.odd.length in
      let error = pos (steady_error p flutter) in
      let Near : Sender → Type 0 = λ one. IsWithin error ((here +ℤ (value *ℤ micro)) -ℤ between_actions p one) in
      let near = subst Near same places.actions in
      let between_both = between receiver.course.length sender.course.apart in
      let apart =
      readings_have_ticks drift clock between_both (there -ℤ here) within
      (lengths_apart_by clock receiver.course.length sender.course.apart here there on.holds.odd_lasts also.holds.lies_apart) in
      placed (measuring_of p flutter) (ticks_in scale between_both) error micro (there -ℤ here) value
      (shortest_some p flutter sane) (micro_between p flutter receiver.odd on.seen.regular.odd_micro) apart (given here there error (value *ℤ micro) near)
