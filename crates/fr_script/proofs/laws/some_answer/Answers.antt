use Rattle.fr_script.proofs.Existence.{reads-some}
use Rattle.fr_script.proofs.laws.some_answer.Goals as goal

pub returns : goal.returns
returns c = reads-some
