use Rattle.std.proofs.Common.{ℤ, subst, FitsSigned, w32, w64, rules, arith}
use Rattle.std.proofs.lemmas.Int.{ints, to_z-of_z}
use Rattle.fr_base.specs.Within.{IsWithin}
use Rattle.fr_node.proofs.listener.rate_of.Goals as goal

pub returns-clause-within : goal.returns-clause-within
returns-clause-within c =
    let most : FitsSigned w64 c.limit-most.result = omega (arith, ints, c.limit-most.ensures.within.low, c.limit-most.ensures.within.high) in
    let near : IsWithin c.limit-most.result c.apart.result = simp to_z-of_z at c.apart.ensures.within in
    let fits : FitsSigned w32 c.apart.result = search rules in
    simp to_z-of_z (subst (λ (limit : ℤ). IsWithin limit c.apart.result) c.limit-most.ensures.value near)
