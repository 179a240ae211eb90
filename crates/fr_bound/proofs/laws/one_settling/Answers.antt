use Rattle.fr_bound.proofs.Settled.{one_double, one_peak, one_verdict}
use Rattle.fr_bound.proofs.laws.one_settling.Goals as goal

pub returns-clause-doubles : goal.returns-clause-doubles
returns-clause-doubles c = one_double

pub returns-clause-peak : goal.returns-clause-peak
returns-clause-peak c = one_peak

pub returns-clause-failed : goal.returns-clause-failed
returns-clause-failed c = one_verdict
