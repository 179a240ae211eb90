use Rattle.fr_trace.proofs.Answering.{reads-same}
use Rattle.fr_trace.proofs.laws.one_answer.Goals as goal

pub returns : goal.returns
returns c = reads-same
