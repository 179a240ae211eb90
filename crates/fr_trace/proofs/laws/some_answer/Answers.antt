use Rattle.fr_trace.proofs.Answering.{reads-some}
use Rattle.fr_trace.proofs.laws.some_answer.Goals as goal

pub returns : goal.returns
returns c = reads-some
