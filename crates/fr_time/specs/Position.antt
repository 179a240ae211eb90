-- Where a macrotick lies in its cycle, in microticks from the start of the cycle (section 8.2). The standard asks that
-- the macroticks lie evenly; that the quotients are rounded down is this profile's.
use Rattle.std.specs.Prelude.{ℤ, pos, neg_ℤ, ◌+ℤ◌, ◌-ℤ◌, ◌*ℤ◌, ◌≤ℤ◌, ◌<ℤ◌, Bool, ◌&&◌, int_lt, if◌then◌else◌}
use Rattle.std.specs.Int.{int_div_euclid}
use Rattle.fr_base.specs.Within.{IsWithin}
use Rattle.fr_cluster.specs.Values.{Values}
use Rattle.fr_time.specs.declared.grid.Grid.{Grid}

-- the grid of a cluster
abbrev pub grid_for : Values → Grid
grid_for p = record { macros = p.macros; micros = p.micros; correction = p.correction }

-- a quotient rounded down; the divisor is above 0
abbrev pub floor_of : ℤ → ℤ → ℤ
floor_of n d = int_div_euclid n d

-- where the macroticks lie evenly over the whole cycle: in an even cycle, and up to the offset correction in an odd one
abbrev pub even_position : Grid → ℤ → ℤ → ℤ
even_position grid rate macrotick = floor_of (macrotick *ℤ (grid.micros +ℤ rate)) grid.macros

-- the microticks from the start of the offset correction to the end of the cycle
abbrev pub corrected_micros : Grid → ℤ → ℤ → ℤ
corrected_micros grid rate offset = (grid.micros +ℤ rate +ℤ offset) -ℤ even_position grid rate grid.correction

-- where the macroticks lie evenly from the start of the offset correction to the end of the cycle
abbrev pub corrected_position : Grid → ℤ → ℤ → ℤ → ℤ
corrected_position grid rate offset macrotick =
    even_position grid rate grid.correction
    +ℤ floor_of ((macrotick -ℤ grid.correction) *ℤ corrected_micros grid rate offset) (grid.macros -ℤ grid.correction)

-- the position of a macrotick under a rate and an offset term, in an odd or an even cycle; at the start of the offset
-- correction both rules give the same
abbrev pub position_of : Grid → ℤ → ℤ → Bool → ℤ → ℤ
position_of grid rate offset odd macrotick =
    if odd && int_lt grid.correction macrotick then corrected_position grid rate offset macrotick else even_position grid rate macrotick

-- the offset correction starts within the cycle, and the numbers are those of a cluster
pub record IsGrid (grid : Grid) : Type 0 where
  pub correction_from : pos 1 ≤ℤ grid.correction
  pub correction_to : grid.correction <ℤ grid.macros
  pub macros_to : grid.macros ≤ℤ pos 16_000
  pub micros_to : grid.micros ≤ℤ pos 640_000

-- the macroticks of a cycle can be placed under these terms: each has a microtick, and the cycle does not end before
-- its offset correction starts
pub record IsPlaceable (grid : Grid) (rate offset : ℤ) : Type 0 where
  pub is_grid : IsGrid grid
  pub micros_from : grid.macros ≤ℤ (grid.micros +ℤ rate)
  pub rate_from : neg_ℤ (pos 2000) ≤ℤ rate
  pub rate_to : rate ≤ℤ pos 2000
  pub offset_from : neg_ℤ (pos 16_000) ≤ℤ offset
  pub offset_to : offset ≤ℤ pos 16_000
  pub reaches_correction : even_position grid rate grid.correction ≤ℤ (grid.micros +ℤ rate +ℤ offset)

-- the macroticks of a grid can be placed under every rate and every offset term within its limit, and with no offset
pub record CanPlace (p : Values) (grid : Grid) : Type 0 where
  pub is_grid : IsGrid grid
  pub early : (rate : ℤ) → IsWithin p.rate_limit rate → IsPlaceable grid rate (pos 0)
  pub terms : (rate offset : ℤ) → IsWithin p.rate_limit rate → IsWithin p.offset_limit offset → IsPlaceable grid rate offset
