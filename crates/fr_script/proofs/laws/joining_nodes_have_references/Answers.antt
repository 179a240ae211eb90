use Rattle.fr_script.proofs.Joining.{fits-join}
use Rattle.fr_script.proofs.laws.joining_nodes_have_references.Goals as goal

pub returns : goal.returns
returns c = fits-join
