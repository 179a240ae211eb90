use Rattle.fr_runs.proofs.Starts.{starts_stay_natural}
use Rattle.fr_runs.proofs.supplying.starts_stay_natural.Goals as goal

pub returns : goal.returns
returns c = starts_stay_natural
