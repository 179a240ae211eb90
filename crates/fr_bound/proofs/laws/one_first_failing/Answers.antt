use Rattle.fr_bound.proofs.Failing.{one_lem, none_lem}
use Rattle.fr_bound.proofs.laws.one_first_failing.Goals as goal

pub returns-clause-one : goal.returns-clause-one
returns-clause-one c = one_lem

pub returns-clause-none : goal.returns-clause-none
returns-clause-none c = none_lem
