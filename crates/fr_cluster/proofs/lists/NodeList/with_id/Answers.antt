use Rattle.std.proofs.Common.{◌∙◌, arith}
use Rattle.fr_cluster.specs.Searches.{node_in}
use Rattle.fr_cluster.proofs.Found.{at_number}
use Rattle.fr_cluster.proofs.lists.NodeList.with_id.Goals as goal

pub returns : goal.returns
returns c =
    c.as_ref.ensures.value
    ∙ at_number node_in c.self.inside.nodes.items c.args.self.now c.self.inside.by_id.items 65 c.from.result c.args.id c.index.result.now
    c.self.view_is c.self.invariant.ids c.index.ensures (c.from.ensures ∙ c.id.view_is) (omega (arith, c.id.invariant.1, c.id.view_is))
