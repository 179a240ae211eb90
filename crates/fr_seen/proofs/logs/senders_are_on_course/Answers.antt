use Rattle.fr_seen.proofs.SenderLaws.{senders_are_on_course, senders_go_on}
use Rattle.fr_seen.proofs.logs.senders_are_on_course.Goals as goal

pub returns-clause-hold : goal.returns-clause-hold
returns-clause-hold c = senders_are_on_course

pub returns-clause-on : goal.returns-clause-on
returns-clause-on c = senders_go_on
