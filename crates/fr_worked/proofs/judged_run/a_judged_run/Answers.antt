use Rattle.fr_worked.proofs.JudgedWorked.{far_numbers_are_judged, worked_numbers_go_on, worked_run_goes_on}
use Rattle.fr_worked.proofs.judged_run.a_judged_run.Goals as goal

pub returns-clause-numbers : goal.returns-clause-numbers
returns-clause-numbers c = worked_numbers_go_on

pub returns-clause-far : goal.returns-clause-far
returns-clause-far c = far_numbers_are_judged

pub returns-clause-goes : goal.returns-clause-goes
returns-clause-goes c = worked_run_goes_on c.one_lawful_run.ensures.lawful c.one_lawful_run.ensures.long
