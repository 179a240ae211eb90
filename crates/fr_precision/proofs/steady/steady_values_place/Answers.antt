use Rattle.fr_precision.proofs.SteadyLemmas.{half_places_even, own_value_places_even, steady_values_place_lem}
use Rattle.fr_precision.proofs.steady.steady_values_place.Goals as goal

pub returns-clause-difference : goal.returns-clause-difference
returns-clause-difference c = steady_values_place_lem

pub returns-clause-half : goal.returns-clause-half
returns-clause-half c = half_places_even

pub returns-clause-own : goal.returns-clause-own
returns-clause-own c = own_value_places_even
