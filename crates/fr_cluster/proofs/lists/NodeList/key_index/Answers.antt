use Rattle.std.proofs.Common.{◌∙◌, arith}
use Rattle.fr_cluster.specs.Searches.{key_index_in}
use Rattle.fr_cluster.proofs.Found.{at_number}
use Rattle.fr_cluster.proofs.lists.NodeList.key_index.Goals as goal

pub returns : goal.returns
returns c =
    at_number key_index_in c.self.inside.nodes.items c.args.self.now c.self.inside.indices.items 1024 c.from.result c.args.slot c.index.result.now
    c.self.view_is c.self.invariant.places c.index.ensures (c.from.ensures ∙ c.slot.view_is) (omega (arith, c.slot.invariant.1, c.slot.view_is))
