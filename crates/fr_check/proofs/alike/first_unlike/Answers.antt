use Rattle.std.proofs.Common.{◌<◌, ℕ, subst}
use Rattle.fr_verdict.specs.Alike.{unlike_at}
use Rattle.fr_verdict.proofs.Stepping.{below_hit, below_more, below_none}
use Rattle.fr_check.proofs.alike.first_unlike.Goals as goal

pub loop-double-init : goal.loop-double-init
loop-double-init c = below_none (unlike_at c.args.params.now c.args.trace.now c.args.from)

pub returns-in-Some : goal.returns-in-Some
returns-in-Some c =
    below_hit (unlike_at c.args.params.now c.args.trace.now c.args.from) c.loop-double.double c.args.trace.now.doubles c.in-Some.found c.unlike_at.result
    c.loop-double.invariant (subst (λ (n : ℕ). c.loop-double.double < n) c.doubles-double-end.ensures.value c.loop-double-test.true) c.unlike_at.ensures c.in-Some.is

pub loop-double-preserved : goal.loop-double-preserved
loop-double-preserved c =
    below_more (unlike_at c.args.params.now c.args.trace.now c.args.from) c.loop-double.double c.unlike_at.result c.loop-double.invariant c.unlike_at.ensures c.in-None.is
