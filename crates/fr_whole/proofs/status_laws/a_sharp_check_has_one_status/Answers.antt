use Rattle.fr_whole.proofs.SharpChecks.{sharp_check_status}
use Rattle.fr_whole.proofs.status_laws.a_sharp_check_has_one_status.Goals as goal

pub returns : goal.returns
returns c =
    sharp_check_status c.one_answer.ensures c.some_answer.ensures c.one_answer-2.ensures c.some_answer-2.ensures c.accepted_are_sane.ensures c.other_gaps_are_found.ensures.one c.other_gaps_are_found.ensures.some
    c.a_sharp_check_is_told.ensures
