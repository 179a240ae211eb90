use Rattle.fr_damage.proofs.flips.what_is_no_frame_is_not_stored.Goals as goal
use Rattle.fr_damage.proofs.Unstored.{not_stored}

pub returns : goal.returns
returns c = not_stored
