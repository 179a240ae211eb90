use Rattle.fr_frame.proofs.Exact.{lengths_fit}
use Rattle.fr_frame.proofs.laws.frame_length.Goals as goal

pub returns : goal.returns
returns c = lengths_fit
