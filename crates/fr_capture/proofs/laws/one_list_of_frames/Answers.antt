use Rattle.fr_capture.proofs.Standing.{frames_are_one}
use Rattle.fr_capture.proofs.laws.one_list_of_frames.Goals as goal

pub returns : goal.returns
returns c = frames_are_one
