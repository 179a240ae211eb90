use Rattle.fr_nm.proofs.Outcomes.{reads-same}
use Rattle.fr_nm.proofs.laws.one_answer.Goals as goal

pub returns : goal.returns
returns c = reads-same
