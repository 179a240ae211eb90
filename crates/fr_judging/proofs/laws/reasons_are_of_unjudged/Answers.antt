use Rattle.fr_judging.proofs.Reasons.{reasons_are_of_unjudged_lem}
use Rattle.fr_judging.proofs.laws.reasons_are_of_unjudged.Goals as goal

pub returns : goal.returns
returns c = reasons_are_of_unjudged_lem
