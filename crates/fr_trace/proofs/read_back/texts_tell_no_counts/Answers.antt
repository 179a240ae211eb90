use Rattle.fr_trace.proofs.Baring.{texts-bare}
use Rattle.fr_trace.proofs.read_back.texts_tell_no_counts.Goals as goal

pub returns : goal.returns
returns c = texts-bare
