use Rattle.fr_precision.proofs.BoundLemmas.{alone_is_below, near_is_below, sharp_is_below}
use Rattle.fr_precision.proofs.bounds.sharp_bounds_are_below.Goals as goal

pub returns-clause-below : goal.returns-clause-below
returns-clause-below c = sharp_is_below

pub returns-clause-alone : goal.returns-clause-alone
returns-clause-alone c = alone_is_below

pub returns-clause-near : goal.returns-clause-near
returns-clause-near c = near_is_below
