use Rattle.fr_correct.proofs.Found.{offset_term_is_found, rate_term_is_found}
use Rattle.fr_correct.proofs.term.terms_are_unique.Goals as goal

pub returns-clause-offset : goal.returns-clause-offset
returns-clause-offset c = offset_term_is_found

pub returns-clause-rate : goal.returns-clause-rate
returns-clause-rate c = rate_term_is_found
