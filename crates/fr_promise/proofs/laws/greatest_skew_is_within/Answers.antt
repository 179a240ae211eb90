use Rattle.fr_promise.proofs.Promising.{greatest_skew_is_within}
use Rattle.fr_promise.proofs.laws.greatest_skew_is_within.Goals as goal

pub returns : goal.returns
returns c = greatest_skew_is_within
