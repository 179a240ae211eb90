use Rattle.std.proofs.Common.{ap}
use Rattle.fr_cluster.specs.Values.{Values}
use Rattle.fr_coverage.proofs.Pairs.{pairs-last}
use Rattle.fr_coverage.proofs.gaps.first_of_pairs.Goals as goal

pub returns-in-None : goal.returns-in-None
returns-in-None c =
    pairs-last c.args.run.params.now c.args.run.drift.now c.args.run.script.now c.args.run.from c.params.inside.nodes c.first_among-in-None.result
    (ap (λ (v : Values). v.nodes) c.params.view_is) c.in-None.ensures c.first_among-in-None.ensures
