use Rattle.fr_seen.proofs.OwnSlotLaws.{no_frame_is_irregular}
use Rattle.fr_seen.proofs.logs.no_frame_of_own_slots_is_irregular.Goals as goal

pub returns : goal.returns
returns c = no_frame_is_irregular
