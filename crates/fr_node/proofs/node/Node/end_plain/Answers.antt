use Rattle.std.proofs.Common.{◌≡◌, ap, arith}
use Rattle.fr_base.specs.declared.node_row.NodeRow.{NodeRow}
use Rattle.fr_node.proofs.Fitting.{plain_row}
use Rattle.fr_node.proofs.node.Node.end_plain.Goals as goal

pub pass-requires-clause-row : goal.pass-requires-clause-row
pass-requires-clause-row c = plain_row c.args.params.now c.args.self.now c.row-plain.result c.requires.fits c.row-plain.ensures.value c.row-plain.ensures.timed

pub returns-clause-ended : goal.returns-clause-ended
returns-clause-ended c =
    let none : c.row-plain.result.cut ≡ 0 = ap (λ (row : NodeRow). row.cut) c.row-plain.ensures.value in
    record { proper = plain_row c.args.params.now c.args.self.now c.row-plain.result c.requires.fits c.row-plain.ensures.value c.row-plain.ensures.timed; cut = omega (arith, none) }
