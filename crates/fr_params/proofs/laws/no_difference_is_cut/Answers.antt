use Rattle.fr_params.proofs.Fourth.{no-cut}
use Rattle.fr_params.proofs.laws.no_difference_is_cut.Goals as goal

pub returns : goal.returns
returns c = no-cut
