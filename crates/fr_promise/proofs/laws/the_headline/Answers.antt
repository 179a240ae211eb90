use Rattle.fr_promise.proofs.Promising.{the_headline as the_headline_lem}
use Rattle.fr_promise.proofs.laws.the_headline.Goals as goal

pub returns : goal.returns
returns c = the_headline_lem
