use Rattle.fr_history.proofs.Unjoined.{deaf_run_comes}
use Rattle.fr_history.proofs.worked.a_run_with_a_deaf_follower.Goals as goal

pub returns : goal.returns
returns c = deaf_run_comes
