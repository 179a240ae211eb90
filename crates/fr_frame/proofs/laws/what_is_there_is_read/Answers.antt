use Rattle.fr_frame.proofs.Found.{frame_read, fault_read}
use Rattle.fr_frame.proofs.laws.what_is_there_is_read.Goals as goal

pub returns : goal.returns
returns c = record { frame = frame_read; fault = fault_read }
