use Rattle.fr_verdict.proofs.Gaps.{other_gap_is_found}
use Rattle.fr_verdict.proofs.Otherwise.{one_otherwise, some_otherwise}
use Rattle.fr_verdict.proofs.laws.other_gaps_are_found.Goals as goal

pub returns-clause-found : goal.returns-clause-found
returns-clause-found c = other_gap_is_found

pub returns-clause-one : goal.returns-clause-one
returns-clause-one c = one_otherwise

pub returns-clause-some : goal.returns-clause-some
returns-clause-some c = some_otherwise
