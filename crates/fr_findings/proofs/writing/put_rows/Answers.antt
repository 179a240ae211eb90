use Rattle.fr_base.proofs.Putting.{cut, then}
use Rattle.std.specs.List.{flat_map}
use Rattle.std.proofs.Common.{ℕ, List}
use Rattle.fr_observe.specs.Observing.{double_rows, node_row}
use Rattle.fr_findings.proofs.writing.put_rows.Goals as goal

pub returns-in_err-put_cycles : goal.returns-in_err-put_cycles
unfolding double_rows
returns-in_err-put_cycles g c =
    let rest : List ℕ = flat_map (node_row c.args.ground.now.scale.now c.args.double.now.number) c.args.double.now.senders.now in
    cut c.from_residual.result rest c.in_err-put_cycles.ensures c.from_residual.ensures.0

pub returns : goal.returns
unfolding double_rows
returns g c = then c.put_nodes.result c.in_ok-put_cycles.ensures c.put_nodes.ensures
