use Rattle.std.proofs.Common.{◌∙◌, sym}
use Rattle.fr_traffic.specs.Traffic.{traffic_with}
use Rattle.fr_traffic.proofs.HeardLists.{linked_have}
use Rattle.fr_traffic.proofs.hearing.hears_all.Goals as goal

pub returns-then-whole : goal.returns-then-whole
returns-then-whole c =
    c.if-whole.true ∙ sym (linked_have c.args.rate (traffic_with c.args.nodes.now c.args.script.now) c.args.double (sym c.requires.whole ∙ c.if-whole.true))
