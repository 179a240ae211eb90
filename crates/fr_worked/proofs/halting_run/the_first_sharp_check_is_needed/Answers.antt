use Rattle.fr_worked.proofs.RunHalting.{first_check_is_needed, halting_run_begins, halting_run_walks}
use Rattle.fr_worked.proofs.halting_run.the_first_sharp_check_is_needed.Goals as goal

pub returns-clause-begins : goal.returns-clause-begins
returns-clause-begins c = halting_run_begins c.one_lawful_run.ensures.lawful c.one_lawful_run.ensures.long

pub returns-clause-walks : goal.returns-clause-walks
returns-clause-walks c = halting_run_walks

pub returns-clause-needed : goal.returns-clause-needed
returns-clause-needed c = first_check_is_needed c.one_lawful_run.ensures.lawful c.one_lawful_run.ensures.long
