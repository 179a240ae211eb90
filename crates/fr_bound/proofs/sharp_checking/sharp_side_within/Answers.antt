use Rattle.std.proofs.Common.{rules, ℕ, subst, sym}
use Rattle.fr_bound.specs.SharpChecks.{IsSharpCheckFor}
use Rattle.fr_bound.proofs.SharpNumbers.{later_check}
use Rattle.fr_bound.proofs.sharp_checking.sharp_side_within.Goals as goal

pub returns-in-1 : goal.returns-in-1
returns-in-1 c =
    let P : ℕ → Type 0 = λ number. IsSharpCheckFor number c.args.flutter c.args.reach c.args.params.now c.walk_sides.result in
    subst P (sym c.in-1.is) (c.walk_sides.ensures c.args.reach)

pub returns-in_default : goal.returns-in_default
returns-in_default c =
    later_check c.args.params.now c.args.flutter c.args.reach c.args.number c.side_within.result (search rules) c.side_within.ensures
