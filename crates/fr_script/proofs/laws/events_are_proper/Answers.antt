use Rattle.fr_script.proofs.Proper.{event-proper}
use Rattle.fr_script.proofs.laws.events_are_proper.Goals as goal

pub returns : goal.returns
returns c = event-proper
