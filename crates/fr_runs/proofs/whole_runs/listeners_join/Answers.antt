use Rattle.fr_runs.proofs.Joining.{listeners_join as listeners_join_lem}
use Rattle.fr_runs.proofs.whole_runs.listeners_join.Goals as goal

pub returns : goal.returns
returns c = listeners_join_lem
