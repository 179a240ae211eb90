use Rattle.std.proofs.Common.{◌∙◌, ap, sym}
use Rattle.fr_cluster.specs.Values.{Values}
use Rattle.fr_traffic.specs.Reaching.{whole_in}
use Rattle.fr_traffic.proofs.hearing.heard_in.Goals as goal

pub kind_in-requires-2-clause-whole : goal.kind_in-requires-2-clause-whole
kind_in-requires-2-clause-whole c = c.requires.whole ∙ sym (ap (λ (p : Values). whole_in p c.args.script.now c.args.double) c.params.view_is)

pub kind_in-requires-clause-whole : goal.kind_in-requires-clause-whole
kind_in-requires-clause-whole c = c.requires.whole ∙ sym (ap (λ (p : Values). whole_in p c.args.script.now c.args.double) c.params.view_is)
