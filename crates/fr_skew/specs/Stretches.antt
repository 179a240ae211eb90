-- Stretches of a cycle, in which macroticks follow one rule.
use Rattle.std.specs.Prelude.{◌≡◌, ◌⊎◌, ℕ, ◌<◌, ℤ, pos, ◌≤ℤ◌, false, List, nat_abs, Option, Some, None}
use Rattle.fr_base.specs.declared.node_row.NodeRow.{NodeRow}
use Rattle.fr_time.specs.Cycles.{is_odd}
use Rattle.fr_time.specs.declared.grid.Grid.{Grid}
use Rattle.fr_skew.specs.Spreads.{spread_at}
use Rattle.fr_skew.specs.declared.peak.Peak.{Peak}

-- from one macrotick to a later one of a cycle, not beyond the start of the offset correction of an odd cycle
pub record IsStretch (grid : Grid) (cycle from to : ℕ) : Type 0 where
  pub order : from < to
  pub within : pos to ≤ℤ grid.macros
  pub one_rule : (is_odd cycle ≡ false) ⊎ ((pos to ≤ℤ grid.correction) ⊎ (grid.correction ≤ℤ pos from))

-- some macrotick of the cycle has a skew no less than this one
pub record IsReached (grid : Grid) (cycle : ℕ) (rows : List NodeRow) (skew : ℤ) : Type 0 where
  pub macrotick : ℕ
  pub within : macrotick < nat_abs grid.macros
  pub reached : skew ≤ℤ spread_at grid cycle rows macrotick

-- there is a greatest skew so far, and this one is no greater
abbrev pub IsNoGreater : ℤ → Option Peak → Type 0
IsNoGreater skew None = ⊥
IsNoGreater skew (Some peak) = skew ≤ℤ peak.skew
