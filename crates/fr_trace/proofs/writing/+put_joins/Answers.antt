use Rattle.std.proofs.Common.{◌<◌, length, arith}
use Rattle.fr_base.proofs.Putting.{cut, then}
use Rattle.fr_script.specs.View.{join_of}
use Rattle.fr_trace.proofs.Lines.{joins-from}
use Rattle.fr_trace.proofs.writing.+put_joins.Goals as goal

pub returns-in_err-put_join : goal.returns-in_err-put_join
returns-in_err-put_join g t c =
    let lt : c.args.place < length c.args.nodes.now = omega arith in
    let text = joins-from (join_of c.args.script.now) c.args.nodes.now c.args.place c.node_at.result.now lt c.node_at.ensures in
    rw (← text) (cut _ _ c.in_err-put_join.ensures c.from_residual.ensures.0)

pub returns : goal.returns
returns g t c =
    let lt : c.args.place < length c.args.nodes.now = omega arith in
    let text = joins-from (join_of c.args.script.now) c.args.nodes.now c.args.place c.node_at.result.now lt c.node_at.ensures in
    rw (← text) (then _ c.in_ok-put_join.ensures c.put_joins.ensures)
