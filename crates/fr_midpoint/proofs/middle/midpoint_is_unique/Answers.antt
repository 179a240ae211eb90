use Rattle.fr_midpoint.proofs.Found.{midpoint_of-is}
use Rattle.fr_midpoint.proofs.MidpointLemmas.{midpoint_is_unique_lem}
use Rattle.fr_midpoint.proofs.middle.midpoint_is_unique.Goals as goal

pub returns-clause-unique : goal.returns-clause-unique
returns-clause-unique c = midpoint_is_unique_lem

pub returns-clause-found : goal.returns-clause-found
returns-clause-found c = midpoint_of-is
