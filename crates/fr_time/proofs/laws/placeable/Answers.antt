use Rattle.fr_time.proofs.Placing.{can_place}
use Rattle.fr_time.proofs.laws.placeable.Goals as goal

pub returns : goal.returns
returns c = can_place
