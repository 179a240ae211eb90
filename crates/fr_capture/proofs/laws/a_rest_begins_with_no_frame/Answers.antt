use Rattle.fr_capture.proofs.Beginning.{no_fault}
use Rattle.fr_capture.proofs.laws.a_rest_begins_with_no_frame.Goals as goal

pub returns : goal.returns
returns c = no_fault
