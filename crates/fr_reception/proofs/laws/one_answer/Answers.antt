use Rattle.fr_reception.proofs.Answers.{answer_is_one}
use Rattle.fr_reception.proofs.laws.one_answer.Goals as goal

pub returns : goal.returns
returns c = answer_is_one
