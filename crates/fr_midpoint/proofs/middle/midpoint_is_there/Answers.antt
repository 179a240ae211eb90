use Rattle.fr_midpoint.proofs.There.{midpoint_is_there_lem}
use Rattle.fr_midpoint.proofs.middle.midpoint_is_there.Goals as goal

pub returns : goal.returns
returns c = midpoint_is_there_lem
