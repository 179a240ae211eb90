use Rattle.fr_precision.proofs.RateLaws.{lengths_draw_together_lem, lengths_stay_near, lengths_stay_together, near_length_is_below_lambda}
use Rattle.fr_precision.proofs.rates.lengths_draw_together.Goals as goal

pub returns-clause-together : goal.returns-clause-together
returns-clause-together c = lengths_draw_together_lem

pub returns-clause-fixed : goal.returns-clause-fixed
returns-clause-fixed c = lengths_stay_together

pub returns-clause-near : goal.returns-clause-near
returns-clause-near c = lengths_stay_near

pub returns-clause-bounded : goal.returns-clause-bounded
returns-clause-bounded c = near_length_is_below_lambda
