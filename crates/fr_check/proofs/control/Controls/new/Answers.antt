use Rattle.std.proofs.Common.{arith}
use Rattle.fr_check.proofs.Controlling.{fresh_stands}
use Rattle.fr_check.proofs.control.Controls.new.Goals as goal

pub returns : goal.returns
returns c = λ node from to.
    fresh_stands c.args.params.now c.poc_limits.result c.all_begun.result node c.poc_limits.ensures.value (c.all_begun.ensures.each node (omega arith))
