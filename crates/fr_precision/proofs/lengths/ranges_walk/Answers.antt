use Rattle.fr_precision.proofs.LengthLemmas.{range_walks}
use Rattle.fr_precision.proofs.lengths.ranges_walk.Goals as goal

pub returns : goal.returns
returns c = range_walks
