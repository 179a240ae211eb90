use Rattle.fr_check.proofs.Decided.{one_line, one_text}
use Rattle.fr_check.proofs.command_laws.files_decide_the_verdict.Goals as goal

pub returns-clause-written : goal.returns-clause-written
returns-clause-written c = one_text c.one_answer.ensures c.one_answer-2.ensures c.one_answer-3.ensures.one

pub returns-clause-told : goal.returns-clause-told
returns-clause-told c = one_line c.one_answer.ensures c.one_answer-2.ensures c.one_answer-3.ensures.one
