use Rattle.fr_worked.proofs.RunDriven.{driven_run_begins, driven_run_reaches}
use Rattle.fr_worked.proofs.driven_run.a_driven_run.Goals as goal

pub returns-clause-begins : goal.returns-clause-begins
returns-clause-begins c = driven_run_begins c.one_lawful_run.ensures.lawful c.one_lawful_run.ensures.long

pub returns-clause-reaches : goal.returns-clause-reaches
returns-clause-reaches c = driven_run_reaches
