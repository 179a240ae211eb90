use Rattle.std.proofs.Common.{◌≤◌, ℕ, arith, subst, sym}
use Rattle.fr_bound.proofs.SharpNumbers.{share_within}
use Rattle.fr_bound.proofs.sharp_bounding.share.Goals as goal

pub returns-clause-most : goal.returns-clause-most
returns-clause-most c =
    let le : c.last_action.result ≤ c.natural-macros.result = subst (λ (n : ℕ). c.last_action.result ≤ n) (sym c.natural-macros.ensures.value) c.last_action.ensures.within in
    let below = share_within c.last_action.result c.args.ticks c.natural-macros.result le in
    omega (arith, below, c.requires)
