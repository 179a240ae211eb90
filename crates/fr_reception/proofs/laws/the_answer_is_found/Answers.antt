use Rattle.fr_reception.proofs.Answers.{answer_found}
use Rattle.fr_reception.proofs.laws.the_answer_is_found.Goals as goal

pub returns : goal.returns
returns c = answer_found
