use Rattle.fr_frame.proofs.Exact.{reading_is_one}
use Rattle.fr_frame.proofs.laws.one_reading.Goals as goal

pub returns : goal.returns
returns c = reading_is_one
