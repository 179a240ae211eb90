use Rattle.fr_cold.proofs.LeastReason.{gives-least}
use Rattle.fr_cold.proofs.laws.refused_for_the_least_reason.Goals as goal

pub returns : goal.returns
returns c = gives-least
