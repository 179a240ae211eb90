use Rattle.fr_whole.proofs.Observed.{one_observation}
use Rattle.fr_whole.proofs.observe.files_decide_what_is_told.Goals as goal

pub returns : goal.returns
returns c = one_observation c.one_answer.ensures c.one_answer-2.ensures
