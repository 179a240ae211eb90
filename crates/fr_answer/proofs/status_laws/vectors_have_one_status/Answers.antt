use Rattle.fr_answer.proofs.RecordingStatus.{nm_status}
use Rattle.fr_answer.proofs.status_laws.vectors_have_one_status.Goals as goal

pub returns : goal.returns
returns c = nm_status c.one_answer.ensures c.some_answer.ensures
