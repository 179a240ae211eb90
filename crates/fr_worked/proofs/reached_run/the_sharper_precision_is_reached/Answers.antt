use Rattle.fr_worked.proofs.RunReached.{reaches_alone, reaches_beside}
use Rattle.fr_worked.proofs.reached_run.the_sharper_precision_is_reached.Goals as goal

pub returns-clause-alone : goal.returns-clause-alone
returns-clause-alone c = reaches_alone c.one_lawful_run.ensures.lawful c.one_lawful_run.ensures.long

pub returns-clause-beside : goal.returns-clause-beside
returns-clause-beside c = reaches_beside c.one_lawful_run.ensures.lawful c.one_lawful_run.ensures.long
