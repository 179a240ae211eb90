use Rattle.fr_runs.proofs.Succeeding.{gathered_nodes_succeed as gathered_nodes_succeed_lem}
use Rattle.fr_runs.proofs.succession.gathered_nodes_succeed.Goals as goal

pub returns : goal.returns
returns c = gathered_nodes_succeed_lem
