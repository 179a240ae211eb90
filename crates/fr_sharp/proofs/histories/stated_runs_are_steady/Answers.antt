use Rattle.fr_promise.proofs.RunCycles.{stated_runs_are_steady}
use Rattle.fr_sharp.proofs.RunStated.{stated_runs_begin_in_sharp_sync, stated_starts_are_sharp, timed_runs_begin_in_sharp_sync}
use Rattle.fr_sharp.proofs.histories.stated_runs_are_steady.Goals as goal

pub returns-clause-steady : goal.returns-clause-steady
returns-clause-steady c = stated_runs_are_steady c.one_lawful_run.ensures.lawful c.one_lawful_run.ensures.long

pub returns-clause-starts : goal.returns-clause-starts
returns-clause-starts c = stated_starts_are_sharp

pub returns-clause-synced : goal.returns-clause-synced
returns-clause-synced c = stated_runs_begin_in_sharp_sync

pub returns-clause-timed : goal.returns-clause-timed
returns-clause-timed c = timed_runs_begin_in_sharp_sync
