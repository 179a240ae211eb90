use Rattle.fr_cold.proofs.Apart.{none_exactly, pair_found}
use Rattle.fr_cold.proofs.connected_laws.the_least_two_apart_are_told.Goals as goal

pub returns-clause-found : goal.returns-clause-found
returns-clause-found c = pair_found

pub returns-clause-none : goal.returns-clause-none
returns-clause-none c = none_exactly
