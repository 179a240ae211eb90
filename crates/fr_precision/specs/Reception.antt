-- Why frames of correct nodes arrive within their slots.
use Rattle.std.specs.Prelude.{ℕ, ◌*◌, ◌≤◌, Bool, ℤ, pos, ◌+ℤ◌, ◌-ℤ◌, ◌*ℤ◌, ◌≤ℤ◌, ◌<ℤ◌, ◌≡◌, true}
use Rattle.fr_base.specs.declared.channel.Channel.{Channel}
use Rattle.fr_base.specs.declared.node_row.NodeRow.{NodeRow}
use Rattle.fr_cluster.specs.Values.{Values, amount}
use Rattle.fr_cluster.specs.Sane.{IsSane}
use Rattle.fr_cluster.specs.Questions.{compensation_of}
use Rattle.fr_cluster.specs.declared.names.ParamName.TheVariants as name
use Rattle.fr_base.specs.Within.{IsWithin}
use Rattle.fr_time.specs.Position.{grid_for}
use Rattle.fr_time.specs.Instant.{instant_of}
use Rattle.fr_time.specs.Slots.{action_point_of, slot_end_of, slot_start_of}
use Rattle.fr_bound.specs.Bounds.{nominal, precision_of, shortest_micro, widest}
use Rattle.fr_bound.specs.Checks.{holds_of, left_of}
use Rattle.fr_precision.specs.Instants.{gap_of}

-- there is room before and after the action point where macroticks lie at most so far apart: the fourth and the fifth
-- check with this number for the precision
pub record LeavesRoom (p : Values) (reach : ℤ) : Type 0 where
  pub before : (p.macros *ℤ (reach +ℤ pos (amount p name.xDelayError))) ≤ℤ pos (left_of 4 p)
  pub after : (p.macros *ℤ (reach +ℤ pos (widest p * nominal) +ℤ pos (amount p name.xDelayError))) <ℤ pos (left_of 5 p)

-- the checks are the case of the precision
abbrev pub RoomChecksSuffice : Type 0
RoomChecksSuffice = (p : Values) → IsSane p → holds_of 4 p ≡ true → holds_of 5 p ≡ true → LeavesRoom p (pos (precision_of p))

-- a delay is that of the channel's compensation, but for the delay error
abbrev pub IsDelay : Values → Channel → ℤ → Type 0
IsDelay p channel delay = IsWithin (pos (amount p name.xDelayError)) (delay -ℤ (compensation_of p channel *ℤ pos nominal))

-- a frame that a node sends within reach of the receiver's action point arrives within its slot there
abbrev pub ArrivalsLieInSlots : Type 0
ArrivalsLieInSlots =
    (p : Values) (reach delay : ℤ) (slot : ℕ) (channel : Channel) (is_odd : Bool) (row sender : NodeRow)
    → IsSane p → LeavesRoom p reach → 1 ≤ slot → slot ≤ amount p name.gNumberOfStaticSlots
    → IsWithin p.rate_limit row.rate → pos (shortest_micro p) ≤ℤ row.length
    → IsWithin reach (gap_of p is_odd (pos (action_point_of p slot)) sender row) → IsDelay p channel delay
    → (instant_of (grid_for p) row is_odd (pos (slot_start_of p slot)) ≤ℤ (instant_of (grid_for p) sender is_odd (pos (action_point_of p slot)) +ℤ delay))
    × ((instant_of (grid_for p) sender is_odd (pos (action_point_of p slot)) +ℤ delay) <ℤ instant_of (grid_for p) row is_odd (pos (slot_end_of p slot)))
