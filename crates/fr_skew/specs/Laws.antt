-- How far any macrotick of a cycle lies apart, by where the cycle begins, turns and ends.
use Rattle.std.specs.Prelude.{ℕ, ◌≤◌, ℤ, pos, ◌+ℤ◌, ◌≤ℤ◌, List, All, nat_abs}
use Rattle.fr_base.specs.declared.node_row.NodeRow.{NodeRow}
use Rattle.fr_time.specs.Placed.{IsPlacedRow}
use Rattle.fr_time.specs.Position.{IsGrid}
use Rattle.fr_time.specs.declared.grid.Grid.{Grid}
use Rattle.fr_skew.specs.Spreads.{spread_at}

-- among the running nodes these lie no further apart than so many ticks: the starts of a cycle, its ends by the rule of
-- even cycles, the starts of the offset correction, and the ends
pub record HasCornersWithin (bound : ℤ) (grid : Grid) (cycle : ℕ) (rows : List NodeRow) : Type 0 where
  pub from : pos 0 ≤ℤ bound
  pub begins : spread_at grid 0 rows 0 ≤ℤ bound
  pub evenly : spread_at grid 0 rows (nat_abs grid.macros) ≤ℤ bound
  pub turns : spread_at grid cycle rows (nat_abs grid.correction) ≤ℤ bound
  pub ends : spread_at grid cycle rows (nat_abs grid.macros) ≤ℤ bound

-- then no macrotick lies further apart than that and the longest microtick
abbrev pub MacroticksLieNear : Type 0
MacroticksLieNear =
    (bound : ℤ) (grid : Grid) (cycle : ℕ) (rows : List NodeRow) (macrotick : ℕ) → IsGrid grid → All (IsPlacedRow grid) rows → HasCornersWithin bound grid cycle rows
    → macrotick ≤ nat_abs grid.macros → spread_at grid cycle rows macrotick ≤ℤ (bound +ℤ pos 1_500_000)
