use Rattle.fr_worked.proofs.RunWorked.{older_checks_fail, steady_precisions, steady_run_keeps_precision, steady_run_meets_premises, walking_run_stays_in_sharp_sync}
use Rattle.fr_worked.proofs.worked_run.a_steady_run.Goals as goal

pub returns-clause-older : goal.returns-clause-older
returns-clause-older c = older_checks_fail

pub returns-clause-keeps : goal.returns-clause-keeps
returns-clause-keeps c = steady_run_keeps_precision c.one_lawful_run.ensures.lawful c.one_lawful_run.ensures.long

pub returns-clause-meets : goal.returns-clause-meets
returns-clause-meets c = steady_run_meets_premises c.one_lawful_run.ensures.lawful c.one_lawful_run.ensures.long

pub returns-clause-precisions : goal.returns-clause-precisions
returns-clause-precisions c = steady_precisions

pub returns-clause-walks : goal.returns-clause-walks
returns-clause-walks c = walking_run_stays_in_sharp_sync c.one_lawful_run.ensures.lawful c.one_lawful_run.ensures.long
