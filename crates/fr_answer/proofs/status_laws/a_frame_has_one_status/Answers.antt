use Rattle.fr_answer.proofs.RecordingStatus.{frame_status}
use Rattle.fr_answer.proofs.status_laws.a_frame_has_one_status.Goals as goal

pub returns : goal.returns
returns c = frame_status c.what_is_read_is_there.ensures.frame c.what_is_read_is_there.ensures.fault c.a_fault_is_no_frame.ensures
