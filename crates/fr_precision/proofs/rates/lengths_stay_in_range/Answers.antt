use Rattle.fr_precision.proofs.RateLaws.{lengths_stay_in_range_lem, rate_terms_are_uncut}
use Rattle.fr_precision.proofs.rates.lengths_stay_in_range.Goals as goal

pub returns-clause-uncut : goal.returns-clause-uncut
returns-clause-uncut c = rate_terms_are_uncut

pub returns-clause-range : goal.returns-clause-range
returns-clause-range c = lengths_stay_in_range_lem
