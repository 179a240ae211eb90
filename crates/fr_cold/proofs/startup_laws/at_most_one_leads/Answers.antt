use Rattle.fr_cold.proofs.Leaders.{at-most-one}
use Rattle.fr_cold.proofs.startup_laws.at_most_one_leads.Goals as goal

pub returns : goal.returns
returns c = at-most-one
