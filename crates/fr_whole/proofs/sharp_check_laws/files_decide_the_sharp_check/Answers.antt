use Rattle.fr_whole.proofs.SharpChecks.{one_sharp_check, one_sharp_line}
use Rattle.fr_whole.proofs.sharp_check_laws.files_decide_the_sharp_check.Goals as goal

pub returns-clause-written : goal.returns-clause-written
returns-clause-written c = one_sharp_check c.one_answer.ensures c.one_answer-2.ensures

pub returns-clause-told : goal.returns-clause-told
returns-clause-told c = one_sharp_line c.one_answer.ensures c.one_answer-2.ensures c.other_gaps_are_found.ensures.one
