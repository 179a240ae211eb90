use Rattle.fr_frame.proofs.Exact.{spelling_is_one}
use Rattle.fr_frame.proofs.laws.one_spelling.Goals as goal

pub returns : goal.returns
returns c = spelling_is_one
