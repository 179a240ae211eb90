use Rattle.std.proofs.Common.{◌<◌, length, arith}
use Rattle.fr_base.proofs.Putting.{cut, then}
use Rattle.fr_script.specs.View.{is_arbitrary}
use Rattle.fr_trace.proofs.Lines.{named-from}
use Rattle.fr_trace.proofs.writing.+put_named.Goals as goal

pub returns-in_err-put_node : goal.returns-in_err-put_node
returns-in_err-put_node g t c =
    let lt : c.args.place < length c.args.nodes.now = omega arith in
    let text = named-from (is_arbitrary c.args.script.now) c.args.nodes.now c.args.place c.node_at.result.now lt c.node_at.ensures in
    rw (← text) (cut _ _ c.in_err-put_node.ensures c.from_residual.ensures.0)

pub returns : goal.returns
returns g t c =
    let lt : c.args.place < length c.args.nodes.now = omega arith in
    let text = named-from (is_arbitrary c.args.script.now) c.args.nodes.now c.args.place c.node_at.result.now lt c.node_at.ensures in
    rw (← text) (then _ c.in_ok-put_node.ensures c.put_named.ensures)
