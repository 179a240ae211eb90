use Rattle.fr_seen_runs.proofs.WorkedStrangers.{form_is_seen, stranger_is_seen}
use Rattle.fr_seen_runs.proofs.WorkedVerdict.{plain_log_is}
use Rattle.fr_seen_runs.proofs.worked.worked_strangers.Goals as goal

pub returns-clause-stranger : goal.returns-clause-stranger
returns-clause-stranger c = stranger_is_seen (plain_log_is c.one_lawful_run.ensures.lawful)

pub returns-clause-form : goal.returns-clause-form
returns-clause-form c = form_is_seen (plain_log_is c.one_lawful_run.ensures.lawful)
