use Rattle.std.proofs.Common.{ap}
use Rattle.fr_cluster.specs.Values.{Values}
use Rattle.fr_coverage.proofs.ByKind.{by-kind}
use Rattle.fr_coverage.proofs.gaps.gaps_by_kind.Goals as goal

pub returns : goal.returns
returns c =
    by-kind c.args.params.now c.args.drift.now c.args.script.now c.args.from c.params.inside.nodes
    c.outweighed.result c.first_among.result c.first_among-2.result c.first_among-3.result c.first_among-4.result
    (ap (λ (v : Values). v.nodes) c.params.view_is) c.outweighed.ensures c.first_among.ensures c.first_among-2.ensures c.first_among-3.ensures c.first_among-4.ensures
