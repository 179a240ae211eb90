use Rattle.fr_text.proofs.Cuts.{refused-none}
use Rattle.fr_text.proofs.laws.first_refused_excludes_none.Goals as goal

pub returns : goal.returns
returns c = refused-none
