use Rattle.fr_sharp.proofs.CrossingPeaks.{some_crossing_cost}
use Rattle.fr_sharp.proofs.LossNumbers.{every_second_is_reached, some_longest, some_loss_cost, some_second_cost}
use Rattle.fr_sharp.proofs.MeetingNumbers.{some_meeting_cost}
use Rattle.fr_sharp.proofs.loss_cost_laws.costs_are_there.Goals as goal

pub returns-clause-row : goal.returns-clause-row
returns-clause-row c = some_loss_cost

pub returns-clause-crossing : goal.returns-clause-crossing
returns-clause-crossing c = some_crossing_cost

pub returns-clause-second : goal.returns-clause-second
returns-clause-second c = some_second_cost

pub returns-clause-meeting : goal.returns-clause-meeting
returns-clause-meeting c = some_meeting_cost

pub returns-clause-longest : goal.returns-clause-longest
returns-clause-longest c = some_longest

pub returns-clause-reached : goal.returns-clause-reached
returns-clause-reached c = every_second_is_reached
