use Rattle.std.proofs.Common.{◌≡◌, ◌∙◌, FitsSigned, ℤ, Some, w64, sym, subst, arith, rules}
use Rattle.std.specs.Prelude.{◌≤ℤ◌, nat_abs}
use Rattle.std.proofs.lemmas.Int.{ints, to_z-of_z}
use Rattle.fr_skew.specs.Sweep.{greatest_within}
use Rattle.fr_skew.specs.declared.peak.Peak.{Peak}
use Rattle.fr_series.proofs.Above.{IsUnder, under_not_above}
use Rattle.fr_series.proofs.scale.Scale.stays_within.Goals as goal

pub returns-in-Some : goal.returns-in-Some
returns-in-Some c held =
    let scale = c.args.self.now in
    let limit : ℤ = scale.precision in
    let peak : Peak = c.in-Some.peak in
    let first : Peak = record { skew = limit; cycle = c.args.cycle; macrotick = 0 } in
    let fits : FitsSigned w64 peak.skew = search rules in
    let limit_fits : FitsSigned w64 limit = search rules in
    let le : peak.skew ≤ℤ limit = grind (arith, ints, to_z-of_z, held) in
    let found : c.swept.result ≡ greatest_within scale.grid c.args.cycle c.args.rows.now (Some first) (nat_abs scale.grid.macros) = simp to_z-of_z at c.swept.ensures.value in
    let is : greatest_within scale.grid c.args.cycle c.args.rows.now (Some first) (nat_abs scale.grid.macros) ≡ Some peak = sym found ∙ c.in-Some.is in
    under_not_above scale.grid c.args.cycle c.args.rows.now (Some first) limit (nat_abs scale.grid.macros) (subst (IsUnder limit) (sym is) le)
