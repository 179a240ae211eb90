use Rattle.fr_promise.proofs.RunCycles.{histories_keep_sharp_precision}
use Rattle.fr_promise.proofs.RunSync.{histories_are_sharp_doubles, histories_have_members, histories_keep_sharp_sync_lem, histories_step_sharply}
use Rattle.fr_sharp.proofs.histories.histories_keep_sharp_sync.Goals as goal

pub returns-clause-members : goal.returns-clause-members
returns-clause-members c = histories_have_members

pub returns-clause-double : goal.returns-clause-double
returns-clause-double c = histories_are_sharp_doubles

pub returns-clause-step : goal.returns-clause-step
returns-clause-step c = histories_step_sharply

pub returns-clause-keep : goal.returns-clause-keep
returns-clause-keep c = histories_keep_sharp_sync_lem

pub returns-clause-precise : goal.returns-clause-precise
returns-clause-precise c = histories_keep_sharp_precision
