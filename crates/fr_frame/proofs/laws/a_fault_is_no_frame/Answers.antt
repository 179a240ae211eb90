use Rattle.fr_frame.proofs.FirstFault.{fault_is_no_frame}
use Rattle.fr_frame.proofs.laws.a_fault_is_no_frame.Goals as goal

pub returns : goal.returns
returns c = fault_is_no_frame
