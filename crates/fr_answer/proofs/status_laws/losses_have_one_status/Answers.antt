use Rattle.fr_answer.proofs.ParameterStatus.{loss_status}
use Rattle.fr_answer.proofs.status_laws.losses_have_one_status.Goals as goal

pub returns : goal.returns
returns c =
    loss_status c.one_answer.ensures c.some_answer.ensures c.accepted_are_sane.ensures c.costs_are_there.ensures.row c.costs_are_there.ensures.crossing c.costs_are_there.ensures.second c.costs_are_there.ensures.meeting c.costs_are_there.ensures.longest
