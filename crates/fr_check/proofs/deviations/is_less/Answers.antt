use Rattle.std.proofs.Common.{◌≡◌, ◌∙◌, ap₂, ℤ, FitsSigned, w64, rules, arith}
use lib.Signed.{le_z}
use mir.Val.{of_z, to_z}
use Rattle.std.proofs.lemmas.Int.{ints, to_z-of_z}
use Rattle.std.specs.Prelude.{◌-ℤ◌, ◌*ℤ◌}
use Rattle.fr_check.proofs.Quotients.{less_same}
use Rattle.fr_check.proofs.deviations.is_less.Goals as goal

pub returns : goal.returns
returns c =
    let n = c.args.ticks_least in
    let d = c.args.length in
    let least : to_z w64 (of_z w64 n) ≡ n = to_z-of_z w64 n c.ranges.ticks_least in
    let length : to_z w64 (of_z w64 d) ≡ d = to_z-of_z w64 d c.ranges.length in
    let fits : FitsSigned w64 (n -ℤ d) = search rules in
    let left : to_z w64 (of_z w64 (to_z w64 (of_z w64 n) -ℤ to_z w64 (of_z w64 d))) ≡ n -ℤ d =
    ap₂ (λ (x y : ℤ). to_z w64 (of_z w64 (x -ℤ y))) least length ∙ to_z-of_z w64 (n -ℤ d) fits in
    let product : c.ticks.result ≡ c.args.value *ℤ c.args.length = search rules in
    let back : to_z w64 (of_z w64 c.ticks.result) ≡ c.ticks.result = to_z-of_z w64 c.ticks.result (search rules) in
    ap₂ le_z (back ∙ product) left ∙ less_same c.args.value n d (omega (arith, ints, c.requires.length.low))
