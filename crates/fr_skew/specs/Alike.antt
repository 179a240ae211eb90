-- Rows of clocks whose macroticks lie alike in their cycles.
use Rattle.std.specs.Prelude.{◌≡◌, ◌⊎◌, ℕ, ℤ, pos, ◌≤ℤ◌, false, List, All}
use Rattle.fr_base.specs.declared.node_row.NodeRow.{NodeRow}
use Rattle.fr_time.specs.Cycles.{is_odd}
use Rattle.fr_time.specs.declared.grid.Grid.{Grid}

-- a row has these terms
pub record HasTerms (rate offset : ℤ) (row : NodeRow) : Type 0 where
  pub rate_is : row.rate ≡ rate
  pub offset_is : row.offset ≡ offset

-- all have the same terms
pub record AreAlike (rows : List NodeRow) : Type 0 where
  pub rate : ℤ
  pub offset : ℤ
  pub each : All (HasTerms rate offset) rows

-- a row has this rate
pub record HasRate (rate : ℤ) (row : NodeRow) : Type 0 where
  pub rate_is : row.rate ≡ rate

-- all have the same rate
pub record HaveOneRate (rows : List NodeRow) : Type 0 where
  pub rate : ℤ
  pub each : All (HasRate rate) rows

-- all have the same rate, and up to a macrotick of the cycle no offset correction moves any of them
pub record KeepPace (grid : Grid) (cycle : ℕ) (rows : List NodeRow) (to : ℕ) : Type 0 where
  pub one_rate : HaveOneRate rows
  pub before : (is_odd cycle ≡ false) ⊎ (pos to ≤ℤ grid.correction)
