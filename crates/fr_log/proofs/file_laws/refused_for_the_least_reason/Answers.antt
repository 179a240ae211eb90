use Rattle.fr_log.proofs.LeastReason.{gives-least}
use Rattle.fr_log.proofs.file_laws.refused_for_the_least_reason.Goals as goal

pub returns : goal.returns
returns c = gives-least
