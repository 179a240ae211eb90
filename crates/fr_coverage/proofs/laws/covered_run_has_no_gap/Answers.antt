use Rattle.fr_coverage.proofs.GapParts.{found-none}
use Rattle.fr_coverage.proofs.laws.covered_run_has_no_gap.Goals as goal

pub returns : goal.returns
returns c = λ p d s sane none g. found-none p d s g sane none
