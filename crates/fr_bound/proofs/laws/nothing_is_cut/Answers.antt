use Rattle.fr_bound.proofs.Uncut.{uncut_lem}
use Rattle.fr_bound.proofs.laws.nothing_is_cut.Goals as goal

pub returns : goal.returns
returns c = uncut_lem
