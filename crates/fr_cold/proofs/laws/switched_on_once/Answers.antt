use Rattle.fr_cold.proofs.Turns.{starters-only, stays-on}
use Rattle.fr_cold.proofs.laws.switched_on_once.Goals as goal

pub returns-clause-starters : goal.returns-clause-starters
returns-clause-starters c = starters-only

pub returns-clause-once : goal.returns-clause-once
returns-clause-once c = stays-on
