use Rattle.std.proofs.Common.{refl}
use Rattle.fr_generator.specs.Cluster.{nodes_to}
use Rattle.fr_generator.proofs.cluster.nodes.Goals as goal

pub returns : goal.returns
unfolding nodes_to
returns c = rw (c.node.ensures, c.node-2.ensures, c.node-3.ensures, c.node-4.ensures, c.node-5.ensures, c.node-6.ensures, c.node-7.ensures, c.node-8.ensures) refl
