use Rattle.std.proofs.Common.{arith}
use Rattle.fr_check.proofs.Controlling.{begun_more}
use Rattle.fr_check.proofs.control.all_begun.Goals as goal

pub loop-node-preserved : goal.loop-node-preserved
loop-node-preserved c =
    begun_more c.loop-node.by_node c.loop-node.node c.args.limits c.new.result c.loop-node.invariant.0 (omega arith) c.new.ensures.limits c.new.ensures.begins c.loop-node.invariant.1
