-- The greatest skew of a cycle, macrotick by macrotick.
use Rattle.std.specs.Prelude.{ℕ, zero, suc, ◌+◌, int_lt, Bool, true, false, List, Option, Some, None}
use Rattle.fr_base.specs.declared.node_row.NodeRow.{NodeRow}
use Rattle.fr_time.specs.declared.grid.Grid.{Grid}
use Rattle.fr_skew.specs.Spreads.{spread_at}
use Rattle.fr_skew.specs.declared.peak.Peak.{Peak}

-- the greater of two skews, the earlier one where they are the same
abbrev pub greater_by : Bool → Peak → Peak → Peak
greater_by true earlier later = later
greater_by false earlier later = earlier

abbrev pub greater_of : Option Peak → Peak → Peak
greater_of None later = later
greater_of (Some earlier) later = greater_by (int_lt earlier.skew later.skew) earlier later

-- the greatest skew up to so many macroticks of a cycle
unfoldable pub greatest_within : Grid → ℕ → List NodeRow → Option Peak → ℕ → Option Peak
greatest_within grid cycle rows before zero = before
greatest_within grid cycle rows before (suc macrotick) =
    Some (greater_of (greatest_within grid cycle rows before macrotick) (record { skew = spread_at grid cycle rows macrotick; cycle = cycle; macrotick = macrotick }))

-- the greatest skew after so many macroticks of a cycle, from one on
unfoldable pub greatest_after : Grid → ℕ → List NodeRow → Option Peak → ℕ → ℕ → Option Peak
greatest_after grid cycle rows before from zero = before
greatest_after grid cycle rows before from (suc count) =
    Some (greater_of (greatest_after grid cycle rows before from count) (record { skew = spread_at grid cycle rows (from + count); cycle = cycle; macrotick = from + count }))
