use Rattle.fr_seen.proofs.SeenDoubles.{doubles_are_there as doubles_are_there_lem}
use Rattle.fr_seen.proofs.log_doubles.doubles_are_there.Goals as goal

pub returns : goal.returns
returns c = doubles_are_there_lem
