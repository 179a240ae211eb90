use Rattle.fr_cold.proofs.Existence.{reads-some}
use Rattle.fr_cold.proofs.laws.some_answer.Goals as goal

pub returns : goal.returns
returns c = reads-some
