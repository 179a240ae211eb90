-- Where deviations come from: an arrival that is counted in microticks, or a value that is recorded.
use Rattle.std.specs.Prelude.{ℕ, ◌≤◌, Bool, ℤ, pos, ◌+ℤ◌, ◌-ℤ◌, ◌≤ℤ◌}
use Rattle.fr_base.specs.declared.channel.Channel.{Channel}
use Rattle.fr_base.specs.declared.node_row.NodeRow.{NodeRow}
use Rattle.fr_cluster.specs.Values.{Values, amount}
use Rattle.fr_cluster.specs.Sane.{IsSane}
use Rattle.fr_cluster.specs.Questions.{compensation_of}
use Rattle.fr_cluster.specs.declared.names.ParamName.TheVariants as name
use Rattle.fr_time.specs.Position.{even_position, floor_of, grid_for}
use Rattle.fr_time.specs.Instant.{instant_of}
use Rattle.fr_time.specs.Slots.{action_point_of}
use Rattle.fr_bound.specs.Bounds.{arrival_error}
use Rattle.fr_precision.specs.Rows.{HasProperMicro, Lasts}
use Rattle.fr_precision.specs.Instants.{gap_of}
use Rattle.fr_precision.specs.Offsets.{IsDeviation}
use Rattle.fr_precision.specs.Reception.{IsDelay}

-- the microticks from the start of the cycle to an arrival in a slot, rounded down, less the compensation of the delay and
-- the position of the slot's action point
abbrev pub counted_of : Values → NodeRow → ℕ → Channel → ℤ → ℤ
counted_of p row slot channel arrival =
    (floor_of (arrival -ℤ row.start) row.length -ℤ compensation_of p channel)
    -ℤ even_position (grid_for p) row.rate (pos (action_point_of p slot))

-- what a receiver counts of a frame that a sender sends at the action point of its slot is a deviation
abbrev pub CountedIsDeviation : Type 0
CountedIsDeviation =
    (p : Values) (delay : ℤ) (slot : ℕ) (channel : Channel) (is_odd : Bool) (row sender : NodeRow)
    → IsSane p → slot ≤ amount p name.gNumberOfStaticSlots → 1 ≤ slot → HasProperMicro p row → IsDelay p channel delay
    → IsDeviation p is_odd (pos (action_point_of p slot)) row sender
    (counted_of p row slot channel (instant_of (grid_for p) sender is_odd (pos (action_point_of p slot)) +ℤ delay))

-- so is a value from the one to the other number that the gap of two instants, less and with the error of an arrival,
-- gives where it is rounded down to microticks
abbrev pub RecordedIsDeviation : Type 0
RecordedIsDeviation =
    (p : Values) (is_odd : Bool) (action value : ℤ) (row sender : NodeRow) → Lasts p row
    → floor_of (gap_of p is_odd action sender row -ℤ pos (arrival_error p)) row.length ≤ℤ value
    → value ≤ℤ floor_of (gap_of p is_odd action sender row +ℤ pos (arrival_error p)) row.length
    → IsDeviation p is_odd action row sender value
