use Rattle.std.proofs.Common.{◌≡◌, pos, FitsSigned, w64, arith}
use Rattle.std.proofs.lemmas.Bool.Decides.{nat_tests}
use Rattle.std.proofs.lemmas.Int.{to_z-of_z}
use Rattle.fr_air.proofs.Lying.{comes}
use Rattle.fr_air.proofs.lines.comes_inside.Goals as goal

pub returns : goal.returns
returns c p sender receiver fits is sends hears =
    let delay_fits : FitsSigned w64 c.args.delay = c.ranges.delay in
    let later : pos c.ticks.result ≡ c.args.delay = simp to_z-of_z at c.ticks.ensures.value in
    comes p c.args.sight.now sender receiver c.args.delay c.ticks.result is sends hears later (grind (arith, nat_tests, fits))
