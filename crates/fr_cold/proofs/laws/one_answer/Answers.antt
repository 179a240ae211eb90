use Rattle.fr_cold.proofs.Outcomes.{reads-same}
use Rattle.fr_cold.proofs.laws.one_answer.Goals as goal

pub returns : goal.returns
returns c = reads-same
