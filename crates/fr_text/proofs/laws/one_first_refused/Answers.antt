use Rattle.fr_text.proofs.Cuts.{first-same}
use Rattle.fr_text.proofs.laws.one_first_refused.Goals as goal

pub returns : goal.returns
returns c = first-same
