use Rattle.fr_answer.proofs.BoundDecided.{one_losses}
use Rattle.fr_answer.proofs.bound_laws.file_decides_the_costs_of_losses.Goals as goal

pub returns : goal.returns
returns c = one_losses c.one_answer.ensures c.costs_are_one.ensures.row c.costs_are_one.ensures.crossing c.costs_are_one.ensures.second c.costs_are_one.ensures.meeting c.costs_are_one.ensures.longest
