-- What a node that joins takes from two arrivals of its reference's frames: how near its first rate and its first start come.
use Rattle.std.specs.Prelude.{◌≡◌, ◌+◌, ◌*◌, ◌≤◌, true, false, ℤ, pos, ◌-ℤ◌, ◌*ℤ◌, ◌≤ℤ◌, ◌<ℤ◌, ◌+ℤ◌}
use Rattle.fr_base.specs.Within.{IsWithin}
use Rattle.fr_base.specs.declared.node_row.NodeRow.{NodeRow}
use Rattle.fr_cluster.specs.Values.{Values, amount}
use Rattle.fr_cluster.specs.Sane.{IsSane}
use Rattle.fr_cluster.specs.declared.names.ParamName.TheVariants as name
use Rattle.fr_time.specs.Position.{grid_for}
use Rattle.fr_time.specs.Instant.{instant_of}
use Rattle.fr_time.specs.Slots.{action_point_of}
use Rattle.fr_reception.specs.Listening.{Caught, caught_micros, first_rate_of, first_start_of}
use Rattle.fr_bound.specs.Bounds.{arrival_error, cycle_change, follower_error, longest_micro, shortest_micro}
use Rattle.fr_bound.specs.Sync.{cycle_length_of, IsCycleLength}
use Rattle.fr_precision.specs.Rows.{end_of, HasProperMicro}
use Rattle.fr_precision.specs.Placement.{IsRegular}
use Rattle.fr_precision.specs.Reception.{IsDelay}
use Rattle.fr_runs.specs.Room.{LimitReaches, RateLimitSuffices}

-- it was caught of the frames of a reference with these rows, and the listener's microticks are proper and change little
pub record IsCaught (p : Values) (c : Caught) (even odd : NodeRow) : Type 0 where
  pub slot_from : 1 ≤ c.slot
  pub slot_to : c.slot ≤ amount p name.gNumberOfStaticSlots
  pub regular : IsRegular p even odd
  pub proper : IsCycleLength p (cycle_length_of p odd)
  pub early_delay : IsDelay p c.channel (c.early -ℤ instant_of (grid_for p) even false (pos (action_point_of p c.slot)))
  pub late_delay : IsDelay p c.channel (c.late -ℤ instant_of (grid_for p) odd true (pos (action_point_of p c.slot)))
  pub even_least : pos (shortest_micro p) ≤ℤ c.even_length
  pub even_most : c.even_length ≤ℤ pos (longest_micro p)
  pub odd_least : pos (shortest_micro p) ≤ℤ c.odd_length
  pub odd_most : c.odd_length ≤ℤ pos (longest_micro p)
  pub steady : IsWithin (pos (amount p name.xChangeBound)) (c.odd_length -ℤ c.even_length)

-- the rows of the first double cycle in which it follows
pub record BeginsAt (p : Values) (c : Caught) (even odd : NodeRow) : Type 0 where
  pub start : even.start ≡ first_start_of p c
  pub even_rate : even.rate ≡ first_rate_of p c
  pub odd_rate : odd.rate ≡ first_rate_of p c
  pub even_micro : HasProperMicro p even
  pub odd_micro : HasProperMicro p odd
  pub even_steady : IsWithin (pos (amount p name.xChangeBound)) (even.length -ℤ c.odd_length)
  pub odd_steady : IsWithin (pos (amount p name.xChangeBound)) (odd.length -ℤ even.length)

-- ---- the laws

-- the listened length is the reference's odd one, but for both delays' errors, one change, and less than a microtick
abbrev pub CaughtLengthIsNear : Type 0
CaughtLengthIsNear =
    (p : Values) (c : Caught) (even odd : NodeRow) → IsSane p → IsCaught p c even odd
    → ((cycle_length_of p odd -ℤ pos (2 * amount p name.xDelayError + cycle_change p + longest_micro p)) <ℤ (caught_micros c *ℤ c.even_length))
    × ((caught_micros c *ℤ c.even_length) ≤ℤ (cycle_length_of p odd +ℤ pos (2 * amount p name.xDelayError + cycle_change p)))

-- under the sixth check the first rate is within its limit
abbrev pub FirstRateIsWithin : Type 0
FirstRateIsWithin =
    (p : Values) (c : Caught) (even odd : NodeRow) → IsSane p → RateLimitSuffices p → IsCaught p c even odd
    → IsWithin p.rate_limit (first_rate_of p c)

-- and a cycle at that rate is about as long as the reference's odd one, up to three changes of the microtick later
abbrev pub FirstLengthsAreNear : Type 0
FirstLengthsAreNear =
    (p : Values) (c : Caught) (even odd : NodeRow) (micro : ℤ) → IsSane p → RateLimitSuffices p → IsCaught p c even odd
    → IsWithin (pos (3 * amount p name.xChangeBound)) (micro -ℤ c.even_length)
    → IsWithin (pos (follower_error p)) ((caught_micros c *ℤ micro) -ℤ cycle_length_of p odd)

-- so are the first two of a node that follows
abbrev pub FollowersLengthsAreNear : Type 0
FollowersLengthsAreNear =
    (p : Values) (c : Caught) (even odd first_even first_odd : NodeRow)
    → IsSane p → RateLimitSuffices p → IsCaught p c even odd → BeginsAt p c first_even first_odd
    → IsWithin (pos (follower_error p)) (cycle_length_of p first_even -ℤ cycle_length_of p odd)
    × IsWithin (pos (follower_error p)) (cycle_length_of p first_odd -ℤ cycle_length_of p odd)

-- the first start lies near the end of the reference's odd cycle, before its offset correction
abbrev pub FirstStartIsNear : Type 0
FirstStartIsNear =
    (p : Values) (c : Caught) (even odd : NodeRow) → IsSane p → RateLimitSuffices p → IsCaught p c even odd
    → IsWithin (pos (arrival_error p + longest_micro p + follower_error p)) (first_start_of p c -ℤ end_of p odd)

-- and is not negative where the reference's start is not, and its lengths are proper
abbrev pub FirstStartIsNatural : Type 0
FirstStartIsNatural =
    (p : Values) (c : Caught) (even odd : NodeRow) → IsSane p → RateLimitSuffices p → LimitReaches p → IsCaught p c even odd
    → IsCycleLength p (cycle_length_of p even) → pos 0 ≤ℤ even.start → pos 0 ≤ℤ first_start_of p c
