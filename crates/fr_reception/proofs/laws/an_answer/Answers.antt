use Rattle.fr_reception.proofs.Answers.{answer_is}
use Rattle.fr_reception.proofs.laws.an_answer.Goals as goal

pub returns : goal.returns
returns c = answer_is
