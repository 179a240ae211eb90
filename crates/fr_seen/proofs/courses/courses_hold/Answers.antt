use Rattle.fr_seen.proofs.CourseLaws.{courses_are_there, courses_hold_lem}
use Rattle.fr_seen.proofs.courses.courses_hold.Goals as goal

pub returns-clause-hold : goal.returns-clause-hold
returns-clause-hold c = courses_hold_lem

pub returns-clause-there : goal.returns-clause-there
returns-clause-there c = courses_are_there
