use Rattle.fr_log.proofs.OneAnswer.{reads-same}
use Rattle.fr_log.proofs.file_laws.one_answer.Goals as goal

pub returns : goal.returns
returns c = reads-same
