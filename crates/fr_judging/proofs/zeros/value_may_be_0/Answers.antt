use Rattle.std.proofs.Common.{sym, subst}
use Rattle.fr_judging.specs.Zeros.{MayBeZero, value_for}
use Rattle.fr_observe.specs.declared.term.Term.{Term}
use Rattle.fr_judging.proofs.ZeroTerms.{deviation-zero, rate-zero}
use Rattle.fr_course.proofs.Numbers.{scale_is, measuring_is}
use Rattle.fr_judging.proofs.zeros.value_may_be_0.Goals as goal

pub returns-in-Offset : goal.returns-in-Offset
returns-in-Offset c = λ is.
    subst (λ (what : Term). MayBeZero (value_for what c.args.scale.now c.args.measuring.now c.args.receiver.now c.args.sender.now)) (sym c.in-Offset.is)
    (
    deviation-zero c.args.scale.now c.args.measuring.now c.args.receiver.now c.args.sender.now (scale_is c.scale.view_is c.scale.invariant).drift (measuring_is c.measuring.view_is c.measuring.invariant)
    (c.deviation_may_be_0.ensures is)
    )

pub returns-in-Rate : goal.returns-in-Rate
returns-in-Rate c = λ is.
    subst (λ (what : Term). MayBeZero (value_for what c.args.scale.now c.args.measuring.now c.args.receiver.now c.args.sender.now)) (sym c.in-Rate.is)
    (rate-zero c.args.scale.now c.args.measuring.now c.args.receiver.now c.args.sender.now (scale_is c.scale.view_is c.scale.invariant).drift (measuring_is c.measuring.view_is c.measuring.invariant) (c.apart_may_be_0.ensures is))
