use Rattle.fr_frame.proofs.FirstRefusal.{refusal_is_one}
use Rattle.fr_frame.proofs.laws.one_first_refusal.Goals as goal

pub returns : goal.returns
returns c = refusal_is_one
