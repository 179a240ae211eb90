use Rattle.fr_precision.proofs.Guided.{hearers_are_guided}
use Rattle.fr_precision.proofs.rounds.rounds_guide.Goals as goal

pub returns : goal.returns
returns c = hearers_are_guided
