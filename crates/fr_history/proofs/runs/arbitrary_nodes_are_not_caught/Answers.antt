use Rattle.fr_history.proofs.Catching.{arbitrary_nodes_are_not_caught as arbitrary_nodes_are_not_caught_lem}
use Rattle.fr_history.proofs.runs.arbitrary_nodes_are_not_caught.Goals as goal

pub returns : goal.returns
returns c = arbitrary_nodes_are_not_caught_lem
