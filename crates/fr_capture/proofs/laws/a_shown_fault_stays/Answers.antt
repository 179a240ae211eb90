use Rattle.fr_capture.proofs.Filling.{stopped_stays}
use Rattle.fr_capture.proofs.laws.a_shown_fault_stays.Goals as goal

pub returns : goal.returns
returns c = stopped_stays
