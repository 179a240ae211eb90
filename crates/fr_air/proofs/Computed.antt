-- The worked run, computed.
use Rattle.std.proofs.Common.{refl}
use Rattle.fr_history.proofs.Computing.{on_cycles}
use Rattle.fr_air.specs.Nodes.{outcomes_after}
use Rattle.fr_air.specs.Worked.{NodeThreeStands}

pub node_3_stands : NodeThreeStands
unfolding on_cycles outcomes_after
node_3_stands = record { listens = refl; catches = refl; begins = refl; stays = refl; steady = refl; joins = refl }
