use Rattle.fr_frame.proofs.Found.{frame_small}
use Rattle.fr_frame.proofs.laws.a_frame_is_of_bytes.Goals as goal

pub returns : goal.returns
returns c = frame_small
