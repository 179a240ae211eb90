use Rattle.fr_promise.proofs.LevelLemmas.{levels_hold_lem}
use Rattle.fr_promise.proofs.LevelSums.{levels_are_there_lem}
use Rattle.fr_promise.proofs.levels.levels_hold.Goals as goal

pub returns-clause-there : goal.returns-clause-there
returns-clause-there c = levels_are_there_lem

pub returns-clause-hold : goal.returns-clause-hold
returns-clause-hold c = levels_hold_lem
