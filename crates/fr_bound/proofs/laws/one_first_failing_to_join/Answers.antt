use Rattle.fr_bound.proofs.Failing.{one_to_join, none_to_join}
use Rattle.fr_bound.proofs.laws.one_first_failing_to_join.Goals as goal

pub returns-clause-one : goal.returns-clause-one
returns-clause-one c = one_to_join

pub returns-clause-none : goal.returns-clause-none
returns-clause-none c = none_to_join
