use Rattle.fr_promise.proofs.Drifts.{rates_are_within}
use Rattle.fr_promise.proofs.Starts.{lengths_are_natural, starts_are_natural}
use Rattle.fr_promise.proofs.laws.rates_are_within.Goals as goal

pub returns-clause-rates : goal.returns-clause-rates
returns-clause-rates c = rates_are_within

pub returns-clause-starts : goal.returns-clause-starts
returns-clause-starts c = starts_are_natural

pub returns-clause-lengths : goal.returns-clause-lengths
returns-clause-lengths c = lengths_are_natural
