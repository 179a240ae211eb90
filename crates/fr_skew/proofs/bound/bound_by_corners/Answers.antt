use Rattle.std.proofs.Common.{◌≡◌, ℤ, FitsSigned, w64, arith}
use Rattle.std.specs.Prelude.{◌≤ℤ◌, ◌+ℤ◌}
use Rattle.std.proofs.lemmas.Int.{ints, to_z-of_z}
use Rattle.fr_skew.specs.Spreads.{spread_at}
use Rattle.fr_skew.proofs.Bounds.{most, spread_bounded}
use Rattle.fr_skew.proofs.bound.bound_by_corners.Goals as goal

pub returns : goal.returns
returns c macrotick to =
    let grid = c.args.grid.now in
    let rows = c.args.rows.now in
    let bound : ℤ = c.wider-3.result in
    let begins = c.spread_at-begins.ensures in
    let evenly = c.spread_at-evenly.ensures in
    let turns = c.spread_at-turns.ensures in
    let ends = c.spread_at-ends.ensures in
    let begins_fits : FitsSigned w64 c.spread_at-begins.result = omega (arith, ints, begins.within.low, begins.within.high) in
    let evenly_fits : FitsSigned w64 c.spread_at-evenly.result = omega (arith, ints, evenly.within.low, evenly.within.high) in
    let turns_fits : FitsSigned w64 c.spread_at-turns.result = omega (arith, ints, turns.within.low, turns.within.high) in
    let ends_fits : FitsSigned w64 c.spread_at-ends.result = omega (arith, ints, ends.within.low, ends.within.high) in
    let early : FitsSigned w64 c.wider.result = omega (arith, ints, c.wider.ensures.within.low, c.wider.ensures.within.high) in
    let late : FitsSigned w64 c.wider-2.result = omega (arith, ints, c.wider-2.ensures.within.low, c.wider-2.ensures.within.high) in
    let begins_le : c.spread_at-begins.result ≤ℤ c.wider.result = simp to_z-of_z at c.wider.ensures.first in
    let evenly_le : c.spread_at-evenly.result ≤ℤ c.wider.result = simp to_z-of_z at c.wider.ensures.second in
    let turns_le : c.spread_at-turns.result ≤ℤ c.wider-2.result = simp to_z-of_z at c.wider-2.ensures.first in
    let ends_le : c.spread_at-ends.result ≤ℤ c.wider-2.result = simp to_z-of_z at c.wider-2.ensures.second in
    let early_le : c.wider.result ≤ℤ bound = simp to_z-of_z at c.wider-3.ensures.first in
    let late_le : c.wider-2.result ≤ℤ bound = simp to_z-of_z at c.wider-3.ensures.second in
    let near : spread_at grid c.args.cycle rows macrotick ≤ℤ (bound +ℤ most) =
    spread_bounded grid c.args.cycle rows c.correction-correction.result c.macroticks-macros.result macrotick bound c.requires.rows
    c.correction-correction.ensures.number c.macroticks-macros.ensures.number to c.wider-3.ensures.within.low
    (chain _ _ _ bound begins.value begins_le early_le) (chain _ _ _ bound evenly.value evenly_le early_le)
    (chain _ _ _ bound turns.value turns_le late_le) (chain _ _ _ bound ends.value ends_le late_le) in
    let whole : FitsSigned w64 bound = omega (arith, ints, c.wider-3.ensures.within.low, c.wider-3.ensures.within.high) in
    let fits : FitsSigned w64 (bound +ℤ most) = omega (arith, ints, c.wider-3.ensures.within.low, c.wider-3.ensures.within.high) in
    rw (to_z-of_z w64 bound whole, to_z-of_z w64 (bound +ℤ most) fits) near
  where
    chain : (x y z bound : ℤ) → y ≡ x → y ≤ℤ z → z ≤ℤ bound → x ≤ℤ bound
    chain x y z bound is one two = omega (arith, ints)
