use Rattle.std.proofs.Common.{◌∷◌, ◌++◌}
use Rattle.fr_nm.proofs.Joining.{counted-more, folded-more}
use Rattle.fr_nm.proofs.Orders.{vector-again}
use Rattle.fr_nm.proofs.laws.repeating_changes_no_vector.Goals as goal

pub returns : goal.returns
returns c = λ width before r after. record {
  vectors = λ cycle. vector-again width cycle before r after;
  rows = λ cycle. folded-more width cycle (before ++ r ∷ after) r;
  frames = counted-more width (before ++ r ∷ after) r;
}
