use Rattle.fr_script.proofs.Outcomes.{fits-key}
use Rattle.fr_script.proofs.laws.arbitrary_node_has_key_slot.Goals as goal

pub returns : goal.returns
returns c = λ p s fits node named. fits-key p s node fits named
