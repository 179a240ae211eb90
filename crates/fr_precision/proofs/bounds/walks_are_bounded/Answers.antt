use Rattle.fr_precision.proofs.BoundLemmas.{first_check_stops_walk, walk_is_bounded, walk_is_held}
use Rattle.fr_precision.proofs.bounds.walks_are_bounded.Goals as goal

pub returns-clause-bounded : goal.returns-clause-bounded
returns-clause-bounded c = walk_is_bounded

pub returns-clause-stops : goal.returns-clause-stops
returns-clause-stops c = first_check_stops_walk

pub returns-clause-held : goal.returns-clause-held
returns-clause-held c = walk_is_held
