use Rattle.fr_frame.proofs.Exact.{frame_spelled}
use Rattle.fr_frame.proofs.laws.a_frame_is_spelled.Goals as goal

pub returns : goal.returns
returns c = frame_spelled
