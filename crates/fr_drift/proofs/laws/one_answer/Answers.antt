use Rattle.fr_drift.proofs.Outcomes.{reads-same}
use Rattle.fr_drift.proofs.laws.one_answer.Goals as goal

pub returns : goal.returns
returns c = reads-same
