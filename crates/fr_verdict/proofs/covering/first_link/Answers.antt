use Rattle.std.proofs.Common.{◌<◌, ℕ, subst}
use Rattle.fr_verdict.specs.FirstGap.{traced_link_gap}
use Rattle.fr_verdict.proofs.Stepping.{below_hit, below_more, below_none}
use Rattle.fr_verdict.proofs.covering.first_link.Goals as goal

pub loop-double-init : goal.loop-double-init
loop-double-init c = below_none (traced_link_gap c.args.trace.now c.args.synced c.args.sender.now c.args.receiver.now)

pub returns-in-Some : goal.returns-in-Some
returns-in-Some c =
    below_hit (traced_link_gap c.args.trace.now c.args.synced c.args.sender.now c.args.receiver.now) c.loop-double.double c.args.trace.now.doubles c.in-Some.gap c.link_gap.result
    c.loop-double.invariant (subst (λ (n : ℕ). c.loop-double.double < n) c.doubles-double-end.ensures.value c.loop-double-test.true) c.link_gap.ensures c.in-Some.is

pub loop-double-preserved : goal.loop-double-preserved
loop-double-preserved c =
    below_more (traced_link_gap c.args.trace.now c.args.synced c.args.sender.now c.args.receiver.now) c.loop-double.double c.link_gap.result c.loop-double.invariant c.link_gap.ensures c.in-None.is
