use Rattle.std.proofs.Common.{◌≡◌, ◌∙◌, ap₂, int_lt, w64, rules, arith}
use mir.Val.{of_z, to_z}
use Rattle.std.proofs.lemmas.Int.{ints, to_z-of_z}
use Rattle.std.specs.Prelude.{◌*ℤ◌}
use Rattle.fr_check.proofs.Quotients.{more_same}
use Rattle.fr_check.proofs.deviations.is_more.Goals as goal

pub returns : goal.returns
returns c =
    let most : to_z w64 (of_z w64 c.args.ticks_most) ≡ c.args.ticks_most = to_z-of_z w64 c.args.ticks_most c.ranges.ticks_most in
    let product : c.ticks.result ≡ c.args.value *ℤ c.args.length = search rules in
    let back : to_z w64 (of_z w64 c.ticks.result) ≡ c.ticks.result = to_z-of_z w64 c.ticks.result (search rules) in
    ap₂ int_lt most (back ∙ product) ∙ more_same c.args.value c.args.ticks_most c.args.length (omega (arith, ints, c.requires.length.low))
