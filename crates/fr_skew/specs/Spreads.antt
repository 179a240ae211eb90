-- How far clocks lie apart, in ticks (section 8.2; the skew is this project's own).
use Rattle.std.specs.Prelude.{ℕ, ℤ, pos, ◌-ℤ◌, ◌≡◌, not, List, [], ◌∷◌, map, filter, fold, Contains}
use Rattle.std.specs.Int.{int_max, int_min}
use Rattle.fr_base.specs.States.{is_halted}
use Rattle.fr_base.specs.declared.node_row.NodeRow.{NodeRow}
use Rattle.fr_time.specs.Cycles.{is_odd}
use Rattle.fr_time.specs.Instant.{instant_of}
use Rattle.fr_time.specs.declared.grid.Grid.{Grid}

-- no instants of clocks lie further apart, in ticks
abbrev pub most_apart_ever : ℕ
most_apart_ever = 2_222_000_000_000_000_000

-- the greatest of some numbers less the least; 0 where there are none
abbrev pub spread_of : List ℤ → ℤ
spread_of [] = pos 0
spread_of (first ∷ rest) = fold int_max first rest -ℤ fold int_min first rest

-- the running nodes: active or passive
abbrev pub running : List NodeRow → List NodeRow
running rows = filter (λ row. not (is_halted row.state)) rows

-- how far the instants of a macrotick of a cycle lie apart among the running nodes, in ticks
unfoldable pub spread_at : Grid → ℕ → List NodeRow → ℕ → ℤ
spread_at grid cycle rows macrotick = spread_of (map (λ row. instant_of grid row (is_odd cycle) (pos macrotick)) (running rows))

-- two of some numbers differ by so much
pub record HasDifference (difference : ℤ) (xs : List ℤ) : Type 0 where
  pub greater : ℤ
  pub less : ℤ
  pub has_greater : Contains xs greater
  pub has_less : Contains xs less
  pub differ : (greater -ℤ less) ≡ difference
