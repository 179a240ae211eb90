use Rattle.fr_sharp.proofs.JudgedCarried.{carried_is_known_lem}
use Rattle.fr_sharp.proofs.judged_steps.carried_states_are_known.Goals as goal

pub returns : goal.returns
returns c = carried_is_known_lem
