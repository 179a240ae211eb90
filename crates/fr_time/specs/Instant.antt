-- Where a macrotick of a node's cycle lies in time, in ticks.
use Rattle.std.specs.Prelude.{ℕ, ◌≤◌, ℤ, pos, ◌+ℤ◌, ◌-ℤ◌, ◌*ℤ◌, ◌≤ℤ◌, Bool}
use Rattle.fr_base.specs.Timed.{IsTimed}
use Rattle.fr_base.specs.Within.{IsWithin}
use Rattle.fr_base.specs.declared.node_row.NodeRow.{NodeRow}
use Rattle.fr_cluster.specs.Values.{Values, amount}
use Rattle.fr_cluster.specs.declared.names.ParamName.TheVariants as name
use Rattle.fr_time.specs.declared.grid.Grid.{Grid}
use Rattle.fr_time.specs.Position.{even_position, grid_for, position_of}
use Rattle.fr_time.specs.Slots.{action_point_of, slot_end_of, slot_start_of}

-- no macrotick lies at a later instant
abbrev pub most_instant : ℕ
most_instant = 1_111_000_000_000_000_000

-- the instant of a macrotick in a node's cycle
abbrev pub instant_of : Grid → NodeRow → Bool → ℤ → ℤ
instant_of grid row odd macrotick = row.start +ℤ (position_of grid row.rate row.offset odd macrotick *ℤ row.length)

-- the start of the node's next cycle
abbrev pub next_start_of : Grid → NodeRow → ℤ
next_start_of grid row = row.start +ℤ ((grid.micros +ℤ row.rate +ℤ row.offset) *ℤ row.length)

-- the position of a macrotick of a node's cycle up to the start of the offset correction, which the offset term does
-- not move, in microticks from the start of the cycle; all static slots lie there
abbrev pub early_position : Values → NodeRow → ℕ → ℤ
early_position p row macrotick = even_position (grid_for p) row.rate (pos macrotick)

-- the instant of such a macrotick, in ticks
abbrev pub early_instant : Values → NodeRow → ℕ → ℤ
early_instant p row macrotick = row.start +ℤ (early_position p row macrotick *ℤ row.length)

-- the instants at which a slot begins and ends at a node, and that of its action point
abbrev pub slot_begins : Values → NodeRow → ℕ → ℤ
slot_begins p row slot = early_instant p row (slot_start_of p slot)

abbrev pub slot_ends : Values → NodeRow → ℕ → ℤ
slot_ends p row slot = early_instant p row (slot_end_of p slot)

abbrev pub action_instant : Values → NodeRow → ℕ → ℤ
action_instant p row slot = early_instant p row (action_point_of p slot)

-- a row whose instants can be computed, with terms within the limits of its cluster
pub record KeepsLimits (p : Values) (row : NodeRow) : Type 0 where
  pub timed : IsTimed row
  pub rate : IsWithin p.rate_limit row.rate
  pub offset : IsWithin p.offset_limit row.offset

-- a static slot of such a row; its offset term does not matter, since the slots end before the offset correction
pub record IsSlotOf (p : Values) (row : NodeRow) (slot : ℕ) : Type 0 where
  pub timed : IsTimed row
  pub rate : IsWithin p.rate_limit row.rate
  pub static_slot : slot ≤ amount p name.gNumberOfStaticSlots

-- an instant that is no earlier than the start of a cycle, and no later than a cycle may last
pub record IsInCycle (row : NodeRow) (at : ℤ) : Type 0 where
  pub from : row.start ≤ℤ at
  pub to : (at -ℤ row.start) ≤ℤ (pos 700_000 *ℤ row.length)
