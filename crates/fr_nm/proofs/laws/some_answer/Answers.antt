use Rattle.fr_nm.proofs.Existence.{reads-some}
use Rattle.fr_nm.proofs.laws.some_answer.Goals as goal

pub returns : goal.returns
returns c = reads-some
