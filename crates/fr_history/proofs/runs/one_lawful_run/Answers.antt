use Rattle.fr_history.proofs.RunsExist.{cycles_lawful, length-cycles_of, next_obeys}
use Rattle.fr_history.proofs.RunsFound.{cycle_found, cycles_found}
use Rattle.fr_history.proofs.Parts.{cycle_at-cycles_of, drop-cycles_of}
use Rattle.fr_history.proofs.runs.one_lawful_run.Goals as goal

pub returns-clause-lawful : goal.returns-clause-lawful
returns-clause-lawful c = cycles_lawful c.an_answer.ensures c.a_regular_frame.ensures.bytes

pub returns-clause-long : goal.returns-clause-long
returns-clause-long c = length-cycles_of

pub returns-clause-only : goal.returns-clause-only
returns-clause-only c = cycles_found c.the_answer_is_found.ensures

pub returns-clause-next : goal.returns-clause-next
returns-clause-next c = next_obeys c.an_answer.ensures c.a_regular_frame.ensures.bytes

pub returns-clause-no_other : goal.returns-clause-no_other
returns-clause-no_other c = cycle_found c.the_answer_is_found.ensures

pub returns-clause-part : goal.returns-clause-part
returns-clause-part c = drop-cycles_of

pub returns-clause-cycles : goal.returns-clause-cycles
returns-clause-cycles c = cycle_at-cycles_of
