use Rattle.fr_runs.proofs.Stated.{stated_runs_stay_together}
use Rattle.fr_runs.proofs.whole_runs.stated_runs_stay_together.Goals as goal

pub returns : goal.returns
returns c =
    stated_runs_stay_together c.one_lawful_run.ensures.lawful c.one_lawful_run.ensures.long c.one_first_unfollowed_sync.ensures.found
