use Rattle.fr_history.specs.Worked.{joined_run}
use Rattle.fr_runs.proofs.Stated.{stated_runs_stay_together}
use Rattle.fr_worked.proofs.JoinedKept.{is_stated, unfollowed_in_0}
use Rattle.fr_worked.proofs.laws.a_joined_run_stays_together.Goals as goal

pub returns-clause-stated : goal.returns-clause-stated
returns-clause-stated c = is_stated

pub returns-clause-stays : goal.returns-clause-stays
returns-clause-stays c =
    stated_runs_stay_together c.one_lawful_run.ensures.lawful c.one_lawful_run.ensures.long c.one_first_unfollowed_sync.ensures.found joined_run 0 is_stated
    (unfollowed_in_0 c.a_joined_run.ensures.cycles c.a_joined_run.ensures.unfollowed)
