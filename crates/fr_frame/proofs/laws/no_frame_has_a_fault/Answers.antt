use Rattle.fr_frame.proofs.Exact.{no_frame_has_fault}
use Rattle.fr_frame.proofs.laws.no_frame_has_a_fault.Goals as goal

pub returns : goal.returns
returns c = no_frame_has_fault
