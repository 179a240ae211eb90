use Rattle.std.proofs.Common.{ℤ, FitsSigned, w64, arith}
use Rattle.std.specs.Prelude.{◌≤ℤ◌}
use Rattle.std.proofs.lemmas.Int.{ints, to_z-of_z}
use Rattle.fr_skew.specs.Spreads.{spread_at}
use Rattle.fr_skew.proofs.Pacing.{alike_bounded}
use Rattle.fr_skew.proofs.bound.bound_by_ends.Goals as goal

pub returns : goal.returns
returns c macrotick to =
    let bound : ℤ = c.wider_end.result in
    let ends = c.wider_end.ensures in
    let near : spread_at c.args.grid.now c.args.cycle c.args.rows.now macrotick ≤ℤ bound =
    alike_bounded c.args.grid.now c.args.cycle c.args.rows.now 0 macrotick c.macroticks.result bound c.requires.rows c.requires.alike
    (omega arith) (omega (arith, ints, to, c.macroticks.ensures.number)) ends.within.low ends.begins ends.ends in
    let whole : FitsSigned w64 bound = omega (arith, ints, ends.within.low, ends.within.high) in
    rw (to_z-of_z w64 bound whole) near
