use Rattle.fr_runs.proofs.Rates.{rates_stay_within}
use Rattle.fr_runs.proofs.UnfollowedSync.{unfollowed_runs_keep_up}
use Rattle.fr_runs.proofs.going_on.unfollowed_runs_keep_up.Goals as goal

pub returns-clause-rates : goal.returns-clause-rates
returns-clause-rates c = rates_stay_within

pub returns-clause-keep : goal.returns-clause-keep
returns-clause-keep c = unfollowed_runs_keep_up
