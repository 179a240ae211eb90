use Rattle.fr_frame.proofs.Exact.{accepted_frame}
use Rattle.fr_frame.proofs.laws.a_frame.Goals as goal

pub returns : goal.returns
returns c = accepted_frame
