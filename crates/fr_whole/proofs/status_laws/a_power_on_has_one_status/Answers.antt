use Rattle.fr_whole.proofs.PowerOnTexts.{power_on_status}
use Rattle.fr_whole.proofs.status_laws.a_power_on_has_one_status.Goals as goal

pub returns : goal.returns
returns c = power_on_status c.one_answer.ensures c.some_answer.ensures c.a_power_on_is_told.ensures
