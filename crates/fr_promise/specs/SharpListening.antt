-- What a node that joins takes from two arrivals of its reference's frames, where delays flutter little: how near its first
-- rate, its first lengths and its first start come to those of a reference whose even cycle may lie beyond its range.
use Rattle.std.specs.Prelude.{◌≡◌, true, false, ◌+◌, ◌*◌, ◌≤◌, ℕ, ℤ, pos, neg_ℤ, ◌+ℤ◌, ◌-ℤ◌, ◌*ℤ◌, ◌≤ℤ◌}
use Rattle.fr_base.specs.Within.{IsBetween, IsWithin}
use Rattle.fr_base.specs.declared.node_row.NodeRow.{NodeRow}
use Rattle.fr_cluster.specs.Values.{Values, amount}
use Rattle.fr_cluster.specs.Sane.{IsSane}
use Rattle.fr_cluster.specs.declared.names.ParamName.TheVariants as name
use Rattle.fr_time.specs.Position.{grid_for}
use Rattle.fr_time.specs.Instant.{instant_of}
use Rattle.fr_time.specs.Slots.{action_point_of}
use Rattle.fr_reception.specs.Listening.{Caught, caught_micros, first_rate_of, first_start_of, suffices}
use Rattle.fr_bound.specs.Bounds.{arrival_error, cycle_change, longest_micro, shortest_micro}
use Rattle.fr_bound.specs.Sync.{cycle_length_of}
use Rattle.fr_precision.specs.Placement.{IsRegular}
use Rattle.fr_precision.specs.Reception.{IsDelay}
use Rattle.fr_precision.specs.Rows.{end_of}
use Rattle.fr_runs.specs.Listening.{BeginsAt}
use Rattle.fr_precision.specs.Lengths.{IsAboutCycle}
use Rattle.fr_bound.specs.SharpChecks.{RateSuffices}
use Rattle.fr_promise.specs.SharpJoining.{counted_error, first_error}

-- the delay of the even frame, and that of the odd one
abbrev pub early_delay_of : Values → Caught → NodeRow → ℤ
early_delay_of p c even = c.early -ℤ instant_of (grid_for p) even false (pos (action_point_of p c.slot))

abbrev pub late_delay_of : Values → Caught → NodeRow → ℤ
late_delay_of p c odd = c.late -ℤ instant_of (grid_for p) odd true (pos (action_point_of p c.slot))

-- it was caught of the frames of a reference with these rows, whose even cycle lies at most so far beyond its range, with delays
-- that flutter by no more than this; and the listener's microticks are proper and change little
pub record IsCaughtSharply (p : Values) (flutter : ℕ) (beyond : ℤ) (c : Caught) (even odd : NodeRow) : Type 0 where
  pub slot_from : 1 ≤ c.slot
  pub slot_to : c.slot ≤ amount p name.gNumberOfStaticSlots
  pub regular : IsRegular p even odd
  pub about : IsAboutCycle p beyond (cycle_length_of p even)
  pub delay : IsDelay p c.channel (late_delay_of p c odd)
  pub flutters : IsWithin (pos flutter) (late_delay_of p c odd -ℤ early_delay_of p c even)
  pub even_least : pos (shortest_micro p) ≤ℤ c.even_length
  pub even_most : c.even_length ≤ℤ pos (longest_micro p)
  pub odd_least : pos (shortest_micro p) ≤ℤ c.odd_length
  pub odd_most : c.odd_length ≤ℤ pos (longest_micro p)
  pub steady : IsWithin (pos (amount p name.xChangeBound)) (c.odd_length -ℤ c.even_length)

-- the rate limit suffices for a first rate, where lengths lie so far beyond their range: the sixth check with so much more
abbrev pub RateTakesIn : Values → ℕ → ℤ → Type 0
RateTakesIn p flutter beyond = RateSuffices p (beyond +ℤ pos (counted_error p flutter))

-- ---- the laws

-- the length that is counted is that of the reference's even cycle, but for the flutter, a change, and less than a microtick
abbrev pub CountedLengthIsNear : Type 0
CountedLengthIsNear =
    (p : Values) (flutter : ℕ) (beyond : ℤ) (c : Caught) (even odd : NodeRow) → IsSane p → IsCaughtSharply p flutter beyond c even odd
    → IsBetween
    (neg_ℤ (pos (counted_error p flutter) -ℤ pos 1))
    (pos (flutter + cycle_change p))
    ((caught_micros c *ℤ c.even_length) -ℤ cycle_length_of p even)

-- so the first rate is within its limit
abbrev pub SharpFirstRateIsWithin : Type 0
SharpFirstRateIsWithin =
    (p : Values) (flutter : ℕ) (beyond : ℤ) (c : Caught) (even odd : NodeRow)
    → IsSane p → RateTakesIn p flutter beyond → IsCaughtSharply p flutter beyond c even odd
    → IsWithin p.rate_limit (first_rate_of p c)

-- and the first even cycle about as long as the reference's
abbrev pub SharpFirstLengthIsNear : Type 0
SharpFirstLengthIsNear =
    (p : Values) (flutter : ℕ) (beyond : ℤ) (c : Caught) (even odd first_even first_odd : NodeRow)
    → IsSane p → RateTakesIn p flutter beyond → IsCaughtSharply p flutter beyond c even odd → BeginsAt p c first_even first_odd
    → IsWithin (pos (first_error p flutter)) (cycle_length_of p first_even -ℤ cycle_length_of p even)

-- how far the first start may lie from the end of the reference's odd cycle, before its offset correction
abbrev pub start_error : Values → ℕ → ℕ
start_error p flutter = arrival_error p + flutter + 2 * longest_micro p + 2 * cycle_change p

abbrev pub SharpFirstStartIsNear : Type 0
SharpFirstStartIsNear =
    (p : Values) (flutter : ℕ) (beyond : ℤ) (c : Caught) (even odd : NodeRow)
    → IsSane p → RateTakesIn p flutter beyond → IsCaughtSharply p flutter beyond c even odd
    → IsWithin (pos (start_error p flutter)) (first_start_of p c -ℤ end_of p odd)

-- it is not negative where the reference's start is not; so what is caught suffices to begin with
abbrev pub SharpCatchesSuffice : Type 0
SharpCatchesSuffice =
    (p : Values) (flutter : ℕ) (beyond : ℤ) (c : Caught) (even odd : NodeRow)
    → IsSane p → RateTakesIn p flutter beyond → IsCaughtSharply p flutter beyond c even odd → pos 0 ≤ℤ even.start
    → suffices p c ≡ true
