use Rattle.fr_script.proofs.Outcomes.{reads-same}
use Rattle.fr_script.proofs.laws.one_answer.Goals as goal

pub returns : goal.returns
returns c = reads-same
