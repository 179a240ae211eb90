use Rattle.fr_nm.proofs.LeastReason.{gives-least}
use Rattle.fr_nm.proofs.laws.refused_for_the_least_reason.Goals as goal

pub returns : goal.returns
returns c = gives-least
