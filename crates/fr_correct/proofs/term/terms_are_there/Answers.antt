use Rattle.fr_correct.proofs.There.{offset_term_is_there, rate_term_is_there}
use Rattle.fr_correct.proofs.term.terms_are_there.Goals as goal

pub returns-clause-offset : goal.returns-clause-offset
returns-clause-offset c = offset_term_is_there

pub returns-clause-rate : goal.returns-clause-rate
returns-clause-rate c = rate_term_is_there
