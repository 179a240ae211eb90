use Rattle.fr_capture.proofs.Filling.{last_frame}
use Rattle.fr_capture.proofs.laws.a_completed_frame_is_the_last.Goals as goal

pub returns : goal.returns
returns c = last_frame
