-- The least and the greatest of some numbers, found one after the other.
use Rattle.std.specs.Prelude.{ℕ, ℤ, pos, neg_ℤ, ◌-ℤ◌, ◌≤ℤ◌, Option, Some, None, if◌then◌else◌}
use Rattle.std.specs.Int.{int_max, int_min}
use Rattle.fr_base.specs.States.{is_halted}
use Rattle.fr_base.specs.Within.{IsWithin}
use Rattle.fr_base.specs.declared.node_row.NodeRow.{NodeRow}
use Rattle.fr_time.specs.Cycles.{is_odd}
use Rattle.fr_time.specs.Instant.{instant_of}
use Rattle.fr_time.specs.declared.grid.Grid.{Grid}
use Rattle.fr_skew.specs.Sync.{cycle_length_by}
use Rattle.fr_skew.specs.declared.extent.Extent.{Extent}
use Rattle.fr_skew.specs.declared.sync.SyncBounds.{SyncBounds}

-- the extent of some numbers and one more
abbrev pub widened : Option Extent → ℤ → Extent
widened None x = record { low = x; high = x }
widened (Some extent) x = record { low = int_min extent.low x; high = int_max extent.high x }

-- how far some numbers lie apart, by their extent
abbrev pub spread_by : Option Extent → ℤ
spread_by None = pos 0
spread_by (Some extent) = extent.high -ℤ extent.low

abbrev pub with_number : Option Extent → ℤ → Option Extent
with_number extent x = Some (widened extent x)

-- the extent of the instants of a macrotick in the cycles of running nodes, and of one more node
abbrev pub with_instant : Grid → ℕ → ℕ → Option Extent → NodeRow → Option Extent
with_instant grid cycle macrotick extent row =
    if is_halted row.state then extent else Some (widened extent (instant_of grid row (is_odd cycle) (pos macrotick)))

-- that of the starts of rows
abbrev pub with_start : Option Extent → NodeRow → Option Extent
with_start extent row = Some (widened extent row.start)

-- that of the lengths of their cycles
abbrev pub with_length : SyncBounds → Option Extent → NodeRow → Option Extent
with_length bounds extent row = Some (widened extent (cycle_length_by bounds row))

-- a number of ticks that an instant of a run or the length of a cycle may be
abbrev pub IsInstant : ℤ → Type 0
IsInstant at = IsWithin (pos 1_111_000_000_000_000_000) at

-- the least and the greatest of such numbers
pub record IsExtent (extent : Extent) : Type 0 where
  pub low_from : neg_ℤ (pos 1_111_000_000_000_000_000) ≤ℤ extent.low
  pub low_to : extent.low ≤ℤ extent.high
  pub high_to : extent.high ≤ℤ pos 1_111_000_000_000_000_000
