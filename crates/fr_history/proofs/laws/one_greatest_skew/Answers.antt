use Rattle.fr_history.proofs.Greatest.{greatest_is_found, greatest_is_one, greatest_is_there}
use Rattle.fr_history.proofs.laws.one_greatest_skew.Goals as goal

pub returns-clause-found : goal.returns-clause-found
returns-clause-found c = greatest_is_found

pub returns-clause-none : goal.returns-clause-none
returns-clause-none c = greatest_is_there

pub returns-clause-one : goal.returns-clause-one
returns-clause-one c = greatest_is_one
