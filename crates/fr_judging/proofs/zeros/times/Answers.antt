use Rattle.std.proofs.Common.{FitsSigned, arith}
use Rattle.std.specs.Prelude.{◌*ℤ◌}
use mir.Syntax.{w128}
use Rattle.std.proofs.lemmas.Int.{ints, fits_signed_mul, to_z-of_z}
use Rattle.fr_judging.proofs.zeros.times.Goals as goal

pub returns : goal.returns
returns c =
    let macroticks : FitsSigned w128 c.args.macroticks = c.ranges.macroticks in
    let readings : FitsSigned w128 c.args.readings = c.ranges.readings in
    let whole : FitsSigned w128 (c.args.macroticks *ℤ c.args.readings) =
    fits_signed_mul w128 c.args.macroticks c.args.readings 16_000 4_000_000_000_000_000_000 (omega (arith, ints, c.requires.macroticks.low, c.requires.macroticks.high))
    (omega (arith, ints, c.requires.readings.low, c.requires.readings.high)) (omega arith) in
    simp to_z-of_z
