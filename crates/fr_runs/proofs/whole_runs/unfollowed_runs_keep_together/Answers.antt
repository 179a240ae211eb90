use Rattle.fr_runs.proofs.Together.{unfollowed_runs_keep_together as unfollowed_runs_keep_together_lem}
use Rattle.fr_runs.proofs.whole_runs.unfollowed_runs_keep_together.Goals as goal

pub returns : goal.returns
returns c = unfollowed_runs_keep_together_lem
