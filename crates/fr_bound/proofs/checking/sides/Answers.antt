use Rattle.std.proofs.Common.{rules, ◌≡◌, ℕ, subst, sym}
use Rattle.fr_bound.specs.Checks.{AreSides}
use Rattle.fr_bound.proofs.checking.sides.Goals as goal

pub returns-in_default : goal.returns-in_default
returns-in_default c =
    let ninth : c.args.number ≡ 9 = search rules in
    subst (λ (number : ℕ). AreSides number c.args.params.now c.back_reach_sides.result.0 c.back_reach_sides.result.1) (sym ninth) c.back_reach_sides.ensures
