use Rattle.fr_coverage.proofs.GapParts.{found-of-run}
use Rattle.fr_coverage.proofs.laws.found_gap_of_run_is_first.Goals as goal

pub returns : goal.returns
returns c = λ p d s sane. found-of-run p d s sane
