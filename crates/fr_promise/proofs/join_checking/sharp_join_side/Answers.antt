use Rattle.std.proofs.Common.{rules, ℕ, subst, sym}
use Rattle.fr_promise.specs.SharpJoining.{IsSharpJoinCheckOf}
use Rattle.fr_promise.proofs.Computed.{later_join_check}
use Rattle.fr_promise.proofs.join_checking.sharp_join_side.Goals as goal

pub returns-in-6 : goal.returns-in-6
returns-in-6 c =
    let P : ℕ → Type 0 = λ number. IsSharpJoinCheckOf number c.args.beside c.args.flutter c.args.params.now c.first_rate_sides.result in
    subst P (sym c.in-6.is) (c.first_rate_sides.ensures c.args.beside)

pub returns-in_default : goal.returns-in_default
returns-in_default c =
    later_join_check c.args.params.now c.args.beside c.args.flutter c.ticks_of_reach.result c.args.number c.side_within.result (search rules) c.requires.from c.requires.to c.ticks_of_reach.ensures.value c.side_within.ensures
