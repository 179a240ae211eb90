-- The positions of a cycle of ten macroticks and twenty-five microticks.
use Rattle.std.specs.Prelude.{ℤ, pos, nat_abs, Bool, List, [], ◌∷◌, map}
use Rattle.std.specs.List.{range_with_len}
use Rattle.fr_time.specs.Position.{position_of}
use Rattle.fr_time.specs.declared.grid.Grid.{Grid}

-- the grid, by the macrotick at which the offset correction starts
abbrev pub short_grid : ℤ → Grid
short_grid correction = record { macros = pos 10; micros = pos 25; correction = correction }

-- the positions of all macroticks in turn, under an offset term and no rate term
abbrev pub positions_of : Grid → ℤ → Bool → List ℤ
positions_of grid offset odd = map (λ macrotick. position_of grid (pos 0) offset odd (pos macrotick)) (range_with_len 0 (nat_abs grid.macros))

-- without corrections
abbrev pub even_positions : List ℤ
even_positions = map pos (0 ∷ 2 ∷ 5 ∷ 7 ∷ 10 ∷ 12 ∷ 15 ∷ 17 ∷ 20 ∷ 22 ∷ [])

-- two microticks more, from macrotick 8 on
abbrev pub odd_positions : List ℤ
odd_positions = map pos (0 ∷ 2 ∷ 5 ∷ 7 ∷ 10 ∷ 12 ∷ 15 ∷ 17 ∷ 20 ∷ 23 ∷ [])
