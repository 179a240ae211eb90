use Rattle.std.proofs.Common.{◌<◌, length, arith}
use Rattle.fr_base.proofs.Putting.{cut, then}
use Rattle.fr_params.proofs.Putting.{text-from}
use Rattle.fr_params.specs.Texts.{node_record}
use Rattle.fr_params.proofs.writing.+put_nodes.Goals as goal

pub returns-in_err-put_node : goal.returns-in_err-put_node
returns-in_err-put_node g t c =
    let lt : c.args.place < length c.args.nodes.now = omega arith in
    let text = text-from node_record c.args.nodes.now c.args.place c.node_at.result.now lt c.node_at.ensures in
    rw (← text) (cut _ _ c.in_err-put_node.ensures c.from_residual.ensures.0)

pub returns : goal.returns
returns g t c =
    let lt : c.args.place < length c.args.nodes.now = omega arith in
    let text = text-from node_record c.args.nodes.now c.args.place c.node_at.result.now lt c.node_at.ensures in
    rw (← text) (then _ c.in_ok-put_node.ensures c.put_nodes.ensures)
