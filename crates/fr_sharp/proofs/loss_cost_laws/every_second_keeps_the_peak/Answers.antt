use Rattle.fr_sharp.proofs.LossBurstLaws.{every_second_costs_no_more, every_second_keeps_the_peak}
use Rattle.fr_sharp.proofs.loss_cost_laws.every_second_keeps_the_peak.Goals as goal

pub returns-clause-cost : goal.returns-clause-cost
returns-clause-cost c = every_second_costs_no_more

pub returns-clause-keep : goal.returns-clause-keep
returns-clause-keep c = every_second_keeps_the_peak c.histories_keep_through_losses.ensures.keep c.heard_numbers.ensures.later c.heard_numbers.ensures.below
