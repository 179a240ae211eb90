use Rattle.fr_seen_runs.proofs.WorkedFiles.{file_is}
use Rattle.fr_seen_runs.proofs.WorkedVerdict.{plain_log_is, stated_log_is}
use Rattle.fr_seen_runs.proofs.worked.a_worked_log.Goals as goal

pub returns-clause-file : goal.returns-clause-file
returns-clause-file c = file_is

pub returns-clause-plain : goal.returns-clause-plain
returns-clause-plain c = plain_log_is c.one_lawful_run.ensures.lawful

pub returns-clause-stated : goal.returns-clause-stated
returns-clause-stated c = stated_log_is c.one_lawful_run.ensures.lawful
