use Rattle.fr_history.proofs.Joined.{joined_run_comes}
use Rattle.fr_history.proofs.worked.a_joined_run.Goals as goal

pub returns : goal.returns
returns c = joined_run_comes
