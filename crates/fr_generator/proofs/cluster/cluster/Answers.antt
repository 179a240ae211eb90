use Rattle.fr_generator.proofs.MadeCluster.{made-accepted, made-ok}
use Rattle.fr_generator.proofs.cluster.cluster.Goals as goal

pub assemble-requires : goal.assemble-requires
assemble-requires c = rw (c.nodes.ensures, c.slots.ensures) made-accepted

pub returns : goal.returns
returns c = made-ok c.assemble.result (rw (c.nodes.ensures, c.slots.ensures) at c.assemble.ensures)
