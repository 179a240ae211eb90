use Rattle.fr_coverage.proofs.GapParts.{all-behind, found-from}
use Rattle.fr_coverage.proofs.laws.found_gap_from_is_first.Goals as goal

pub returns-clause-found : goal.returns-clause-found
returns-clause-found c = λ p d s from sane. found-from p d s from sane

pub returns-clause-all : goal.returns-clause-all
returns-clause-all c = λ p d s g gap. all-behind p d s g gap
