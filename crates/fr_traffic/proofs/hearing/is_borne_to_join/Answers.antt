use Rattle.std.proofs.Common.{◌∙◌, ap, sym}
use Rattle.fr_cluster.specs.Values.{Values}
use Rattle.fr_traffic.specs.Reaching.{whole_in}
use Rattle.fr_traffic.proofs.hearing.is_borne_to_join.Goals as goal

pub bears_kind-requires-then-bears_kind-clause-whole :
    goal.bears_kind-requires-then-bears_kind-clause-whole
bears_kind-requires-then-bears_kind-clause-whole c = c.requires.whole ∙ sym (ap (λ (p : Values). whole_in p c.args.script.now c.args.double) c.params.view_is)

pub bears_kind-requires-clause-whole : goal.bears_kind-requires-clause-whole
bears_kind-requires-clause-whole c = c.requires.whole ∙ sym (ap (λ (p : Values). whole_in p c.args.script.now c.args.double) c.params.view_is)
