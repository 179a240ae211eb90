use Rattle.fr_skew.proofs.Differences.{spread_reached, within_spread}
use Rattle.fr_skew.proofs.laws.a_spread_is_the_greatest_difference.Goals as goal

pub returns-clause-within : goal.returns-clause-within
returns-clause-within c = within_spread

pub returns-clause-reached : goal.returns-clause-reached
returns-clause-reached c = spread_reached
