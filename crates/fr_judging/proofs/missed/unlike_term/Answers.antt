use Rattle.std.proofs.Common.{sym}
use Rattle.fr_judging.proofs.ZeroTerms.{term-none}
use Rattle.fr_judging.proofs.missed.unlike_term.Goals as goal

pub returns-then-term_may_be_0 : goal.returns-then-term_may_be_0
returns-then-term_may_be_0 c =
    let s = c.args.scene.now in
    sym
    (
    term-none s.params.now s.log.now s.scale.now s.number c.args.lost s.senders.now c.args.sender.now c.args.term
    (c.term_may_be_0.ensures.seen c.if-term_may_be_0.true) (c.term_may_be_0.ensures.others c.if-term_may_be_0.true)
    )
