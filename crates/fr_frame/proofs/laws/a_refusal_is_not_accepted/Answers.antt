use Rattle.fr_frame.proofs.FirstRefusal.{refusal_or_accepted}
use Rattle.fr_frame.proofs.laws.a_refusal_is_not_accepted.Goals as goal

pub returns : goal.returns
returns c = refusal_or_accepted
