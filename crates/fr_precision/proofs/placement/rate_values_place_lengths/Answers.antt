use Rattle.fr_precision.proofs.PlacementLaws.{difference_places, half_places, own_value_places}
use Rattle.fr_precision.proofs.placement.rate_values_place_lengths.Goals as goal

pub returns-clause-difference : goal.returns-clause-difference
returns-clause-difference c = difference_places

pub returns-clause-half : goal.returns-clause-half
returns-clause-half c = half_places

pub returns-clause-own : goal.returns-clause-own
returns-clause-own c = own_value_places
