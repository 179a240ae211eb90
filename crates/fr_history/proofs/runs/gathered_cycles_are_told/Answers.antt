use Rattle.fr_history.proofs.FollowedSync.{records_followed}
use Rattle.fr_history.proofs.runs.gathered_cycles_are_told.Goals as goal

pub returns : goal.returns
returns c = records_followed
