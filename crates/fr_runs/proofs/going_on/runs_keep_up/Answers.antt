use Rattle.fr_runs.proofs.Whole.{runs_keep_up as runs_keep_up_lem}
use Rattle.fr_runs.proofs.going_on.runs_keep_up.Goals as goal

pub returns : goal.returns
returns c = runs_keep_up_lem
