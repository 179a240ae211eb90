use Rattle.fr_runs.proofs.Precision.{unfollowed_runs_keep_precision_lem}
use Rattle.fr_runs.proofs.going_on.unfollowed_runs_keep_precision.Goals as goal

pub returns : goal.returns
returns c = unfollowed_runs_keep_precision_lem
