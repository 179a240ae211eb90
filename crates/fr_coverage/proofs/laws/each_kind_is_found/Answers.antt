use Rattle.fr_coverage.proofs.GapParts.{found-by-kind}
use Rattle.fr_coverage.proofs.laws.each_kind_is_found.Goals as goal

pub returns : goal.returns
returns c = λ p d s from sane. found-by-kind p d s from sane
