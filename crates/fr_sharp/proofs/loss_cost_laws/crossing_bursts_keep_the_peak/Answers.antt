use Rattle.fr_sharp.proofs.CrossingBursts.{crossing_bursts_cost_no_more, crossing_bursts_keep_the_peak}
use Rattle.fr_sharp.proofs.loss_cost_laws.crossing_bursts_keep_the_peak.Goals as goal

pub returns-clause-cost : goal.returns-clause-cost
returns-clause-cost c = crossing_bursts_cost_no_more

pub returns-clause-keep : goal.returns-clause-keep
returns-clause-keep c = crossing_bursts_keep_the_peak c.histories_keep_through_losses.ensures.keep c.heard_numbers.ensures.later
