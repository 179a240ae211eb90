use Rattle.fr_frame.proofs.FirstFault.{first_fault_is_one}
use Rattle.fr_frame.proofs.laws.one_first_fault.Goals as goal

pub returns : goal.returns
returns c = first_fault_is_one
