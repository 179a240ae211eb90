use Rattle.fr_verdict.proofs.Gaps.{found_gap_is_first, no_gap_found_is_covered}
use Rattle.fr_verdict.proofs.OneGap.{first_gap_is_found}
use Rattle.fr_verdict.proofs.laws.found_gap_is_first.Goals as goal

pub returns-clause-found : goal.returns-clause-found
returns-clause-found c = found_gap_is_first

pub returns-clause-first : goal.returns-clause-first
returns-clause-first c = first_gap_is_found

pub returns-clause-none : goal.returns-clause-none
returns-clause-none c = no_gap_found_is_covered
