use Rattle.fr_capture.proofs.Walking.{frames_found}
use Rattle.fr_capture.proofs.laws.frames_are_found.Goals as goal

pub returns : goal.returns
returns c = frames_found
