use Rattle.fr_drift.proofs.Existence.{reads-some}
use Rattle.fr_drift.proofs.laws.some_answer.Goals as goal

pub returns : goal.returns
returns c = reads-some
