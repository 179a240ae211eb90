use Rattle.fr_midpoint.proofs.Agreement.{few_are_discarded_lem}
use Rattle.fr_midpoint.proofs.receivers.few_are_discarded.Goals as goal

pub returns : goal.returns
returns c = few_are_discarded_lem
