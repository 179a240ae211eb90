use Rattle.fr_answer.proofs.RecordingStatus.{capture_status}
use Rattle.fr_answer.proofs.status_laws.a_capture_has_one_status.Goals as goal

pub returns : goal.returns
returns c = capture_status c.frames_are_found.ensures
