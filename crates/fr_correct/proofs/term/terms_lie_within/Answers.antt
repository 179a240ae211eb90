use Rattle.fr_correct.proofs.There.{term_lies_within}
use Rattle.fr_correct.proofs.term.terms_lie_within.Goals as goal

pub returns : goal.returns
returns c = term_lies_within
