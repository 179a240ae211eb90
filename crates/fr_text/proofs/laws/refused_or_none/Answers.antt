use Rattle.fr_text.proofs.Cuts.{none-or-first-refused}
use Rattle.fr_text.proofs.laws.refused_or_none.Goals as goal

pub returns : goal.returns
returns c = none-or-first-refused
