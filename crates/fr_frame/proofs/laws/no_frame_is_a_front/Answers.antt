use Rattle.fr_frame.proofs.Fronts.{front_is_whole}
use Rattle.fr_frame.proofs.laws.no_frame_is_a_front.Goals as goal

pub returns : goal.returns
returns c = front_is_whole
