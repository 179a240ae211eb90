use Rattle.fr_trace.proofs.Walking.{texts-read-back}
use Rattle.fr_trace.proofs.read_back.texts_are_read_back.Goals as goal

pub returns : goal.returns
returns c = texts-read-back
