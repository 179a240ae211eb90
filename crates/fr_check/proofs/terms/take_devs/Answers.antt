use Rattle.std.proofs.Common.{take, ◌+◌}
use Rattle.fr_verdict.proofs.Parts.{take_one_more}
use Rattle.fr_check.proofs.Taking.{more_taken, none_taken}
use Rattle.fr_check.proofs.terms.take_devs.Goals as goal

pub loop-dev-init : goal.loop-dev-init
loop-dev-init c = none_taken c.args.params.now c.args.node c.args.odd c.args.table.now

pub loop-dev-preserved : goal.loop-dev-preserved
loop-dev-preserved c =
    more_taken c.args.params.now (take c.loop-dev.dev-index c.args.devs.now) (take (c.loop-dev.dev-index + 1) c.args.devs.now) c.dev-item.result c.args.node c.args.odd c.args.table.now c.loop-dev.table c.take_dev.new.table
    (take_one_more c.args.devs.now c.loop-dev.dev-index c.dev-item.result c.loop-dev-test.true c.dev-item.is)
    c.loop-dev.invariant c.take_dev.ensures
