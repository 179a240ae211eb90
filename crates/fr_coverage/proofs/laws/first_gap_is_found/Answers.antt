use Rattle.fr_coverage.proofs.OneGap.{first-found}
use Rattle.fr_coverage.proofs.laws.first_gap_is_found.Goals as goal

pub returns : goal.returns
returns c = λ p d s sane g. first-found p d s g sane
