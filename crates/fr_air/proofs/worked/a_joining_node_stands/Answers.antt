use Rattle.fr_air.proofs.Computed.{node_3_stands}
use Rattle.fr_air.proofs.worked.a_joining_node_stands.Goals as goal

pub returns : goal.returns
returns c = node_3_stands
