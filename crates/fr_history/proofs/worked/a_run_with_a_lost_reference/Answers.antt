use Rattle.fr_history.proofs.Unjoined.{lost_run_comes}
use Rattle.fr_history.proofs.worked.a_run_with_a_lost_reference.Goals as goal

pub returns : goal.returns
returns c = lost_run_comes
