use Rattle.fr_log.proofs.SomeAnswer.{reads-some}
use Rattle.fr_log.proofs.file_laws.some_answer.Goals as goal

pub returns : goal.returns
returns c = reads-some
