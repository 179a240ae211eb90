use Rattle.fr_answer.proofs.FilesStatus.{cold_status}
use Rattle.fr_answer.proofs.status_laws.a_startup_has_one_status.Goals as goal

pub returns : goal.returns
returns c = cold_status c.one_answer.ensures c.some_answer.ensures c.one_answer-2.ensures c.some_answer-2.ensures c.accepted_are_sane.ensures c.a_startup_has_one_leader.ensures
