use Rattle.fr_answer.proofs.CheckStatus.{check_status}
use Rattle.fr_answer.proofs.status_laws.a_check_has_one_status.Goals as goal

pub returns : goal.returns
returns c =
    check_status c.one_answer.ensures c.some_answer.ensures c.one_answer-2.ensures c.some_answer-2.ensures c.accepted_are_sane.ensures c.one_answer-3.ensures.one c.one_answer-3.ensures.some
    c.a_passing_trace_keeps_its_precision.ensures.keep
