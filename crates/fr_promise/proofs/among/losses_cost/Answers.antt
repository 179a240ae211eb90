use Rattle.fr_precision.proofs.AmongSteps.{one_loss_costs}
use Rattle.fr_precision.proofs.HeardSteps.{heard_spreads_go}
use Rattle.fr_promise.proofs.CrossingNumbers.{crossing_costs}
use Rattle.fr_promise.proofs.among.losses_cost.Goals as goal

pub returns-clause-step : goal.returns-clause-step
returns-clause-step c = heard_spreads_go

pub returns-clause-cost : goal.returns-clause-cost
returns-clause-cost c = one_loss_costs

pub returns-clause-crossing : goal.returns-clause-crossing
returns-clause-crossing c = crossing_costs
