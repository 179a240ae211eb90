use Rattle.fr_coverage.proofs.GapParts.{found-first}
use Rattle.fr_coverage.proofs.laws.found_gap_is_first.Goals as goal

pub returns : goal.returns
returns c = λ p d s sane g. found-first p d s g sane
