use Rattle.std.proofs.Common.{length}
use Rattle.fr_trace.specs.Cycles.{history_by}
use Rattle.fr_verdict.specs.FirstGap.{traced_length_gap}
use Rattle.fr_verdict.proofs.Stepping.{below_hit, below_more, below_none}
use Rattle.fr_verdict.proofs.covering.first_length.Goals as goal

pub loop-cycle-init : goal.loop-cycle-init
loop-cycle-init c = below_none (traced_length_gap c.args.params.now (history_by c.args.cycles.now) c.args.node)

pub returns-in-Some : goal.returns-in-Some
returns-in-Some c =
    below_hit (traced_length_gap c.args.params.now (history_by c.args.cycles.now) c.args.node) c.loop-cycle.cycle (length c.args.cycles.now) c.in-Some.gap c.length_gap.result
    c.loop-cycle.invariant c.loop-cycle-test.true c.length_gap.ensures c.in-Some.is

pub loop-cycle-preserved : goal.loop-cycle-preserved
loop-cycle-preserved c =
    below_more (traced_length_gap c.args.params.now (history_by c.args.cycles.now) c.args.node) c.loop-cycle.cycle c.length_gap.result c.loop-cycle.invariant c.length_gap.ensures c.in-None.is
