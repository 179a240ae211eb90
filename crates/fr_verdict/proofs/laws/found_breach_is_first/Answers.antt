use Rattle.fr_verdict.proofs.Finding.{first_breach_is_found, found_breach_is_first, none_found_is_lawful, one_first_breach}
use Rattle.fr_verdict.proofs.Passing.{passes_in_parts}
use Rattle.fr_verdict.proofs.laws.found_breach_is_first.Goals as goal

pub returns-clause-found : goal.returns-clause-found
returns-clause-found c = found_breach_is_first

pub returns-clause-first : goal.returns-clause-first
returns-clause-first c = first_breach_is_found

pub returns-clause-none : goal.returns-clause-none
returns-clause-none c = none_found_is_lawful

pub returns-clause-one : goal.returns-clause-one
returns-clause-one c = one_first_breach

pub returns-clause-parts : goal.returns-clause-parts
returns-clause-parts c = passes_in_parts
