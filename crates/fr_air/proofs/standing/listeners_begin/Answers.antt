use Rattle.fr_air.proofs.Listeners.{beginning_nodes_listened, listeners_begin as listeners_begin_lem}
use Rattle.fr_air.proofs.standing.listeners_begin.Goals as goal

pub returns-clause-begin : goal.returns-clause-begin
returns-clause-begin c = listeners_begin_lem

pub returns-clause-nobody_else : goal.returns-clause-nobody_else
returns-clause-nobody_else c = beginning_nodes_listened
