use Rattle.fr_answer.proofs.ParameterStatus.{settle_status, sharp_settle_status}
use Rattle.fr_answer.proofs.status_laws.settlings_have_one_status.Goals as goal

pub returns-clause-older : goal.returns-clause-older
returns-clause-older c = settle_status c.one_answer.ensures c.some_answer.ensures

pub returns-clause-sharp : goal.returns-clause-sharp
returns-clause-sharp c = sharp_settle_status c.one_answer.ensures c.some_answer.ensures
