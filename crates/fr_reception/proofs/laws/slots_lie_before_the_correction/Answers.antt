use Rattle.fr_reception.proofs.Early.{early}
use Rattle.fr_reception.proofs.laws.slots_lie_before_the_correction.Goals as goal

pub returns : goal.returns
returns c = early
