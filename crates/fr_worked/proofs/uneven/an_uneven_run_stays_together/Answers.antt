use Rattle.fr_worked.proofs.UnevenKept.{each_synced, stays_together}
use Rattle.fr_worked.proofs.UnevenStated.{is_stated}
use Rattle.fr_worked.proofs.uneven.an_uneven_run_stays_together.Goals as goal

pub returns-clause-stated : goal.returns-clause-stated
returns-clause-stated c = is_stated

pub returns-clause-stays : goal.returns-clause-stays
returns-clause-stays c = stays_together c.one_lawful_run.ensures.lawful c.one_lawful_run.ensures.long c.one_first_unfollowed_sync.ensures.found

pub returns-clause-synced : goal.returns-clause-synced
returns-clause-synced c =
    each_synced c.stated_runs_are_synced.ensures
    (stays_together c.one_lawful_run.ensures.lawful c.one_lawful_run.ensures.long c.one_first_unfollowed_sync.ensures.found)
