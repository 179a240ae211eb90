use Rattle.fr_params.proofs.Outcomes.{reads-same}
use Rattle.fr_params.proofs.laws.one_answer.Goals as goal

pub returns : goal.returns
returns c = reads-same
