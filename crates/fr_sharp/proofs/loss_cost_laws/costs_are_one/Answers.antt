use Rattle.fr_sharp.proofs.CrossingPeaks.{one_crossing_cost}
use Rattle.fr_sharp.proofs.LossNumbers.{one_longest, one_loss_cost, one_second_cost}
use Rattle.fr_sharp.proofs.MeetingNumbers.{one_meeting_cost}
use Rattle.fr_sharp.proofs.loss_cost_laws.costs_are_one.Goals as goal

pub returns-clause-row : goal.returns-clause-row
returns-clause-row c = one_loss_cost

pub returns-clause-crossing : goal.returns-clause-crossing
returns-clause-crossing c = one_crossing_cost

pub returns-clause-second : goal.returns-clause-second
returns-clause-second c = one_second_cost

pub returns-clause-meeting : goal.returns-clause-meeting
returns-clause-meeting c = one_meeting_cost

pub returns-clause-longest : goal.returns-clause-longest
returns-clause-longest c = one_longest
