use Rattle.fr_params.proofs.Existence.{reads-some}
use Rattle.fr_params.proofs.laws.some_answer.Goals as goal

pub returns : goal.returns
returns c = reads-some
