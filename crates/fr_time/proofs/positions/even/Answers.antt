use Rattle.std.proofs.Common.{◌≡◌, FitsSigned, w32, w64, arith}
use Rattle.std.specs.Prelude.{◌+ℤ◌}
use Rattle.std.proofs.lemmas.Int.{ints, to_z-of_z}
use Rattle.fr_time.specs.Position.{even_position}
use Rattle.fr_time.proofs.positions.even.Goals as goal

pub returns-clause-value : goal.returns-clause-value
returns-clause-value c =
    let macrotick : FitsSigned w64 c.args.macrotick = c.ranges.macrotick in
    let rate : FitsSigned w32 c.args.rate = c.ranges.rate in
    let rate_wide : FitsSigned w64 c.args.rate = omega (arith, ints, rate) in
    let macros : FitsSigned w64 c.args.grid.now.macros = omega (arith, ints, c.requires.grid) in
    let micros : FitsSigned w64 c.args.grid.now.micros = omega (arith, ints, c.requires.grid) in
    let length : FitsSigned w64 (c.args.grid.now.micros +ℤ c.args.rate) = omega (arith, ints) in
    let value : c.share.result ≡ even_position c.args.grid.now c.args.rate c.args.macrotick = simp to_z-of_z at c.share.ensures.value in
    omega (arith, ints, value)
