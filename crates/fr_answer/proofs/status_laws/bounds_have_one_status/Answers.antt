use Rattle.fr_answer.proofs.ParameterStatus.{bound_status, join_status, sharp_join_status, sharp_status}
use Rattle.fr_answer.proofs.status_laws.bounds_have_one_status.Goals as goal

pub returns-clause-bound : goal.returns-clause-bound
returns-clause-bound c = bound_status c.one_answer.ensures c.some_answer.ensures

pub returns-clause-join : goal.returns-clause-join
returns-clause-join c = join_status c.one_answer.ensures c.some_answer.ensures

pub returns-clause-sharp : goal.returns-clause-sharp
returns-clause-sharp c = sharp_status c.one_answer.ensures c.some_answer.ensures

pub returns-clause-sharp_join : goal.returns-clause-sharp_join
returns-clause-sharp_join c = sharp_join_status c.one_answer.ensures c.some_answer.ensures
