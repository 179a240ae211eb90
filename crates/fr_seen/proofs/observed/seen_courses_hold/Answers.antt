use Rattle.fr_seen.proofs.ObservedLaws.{seen_courses_hold, seen_nodes_go_on}
use Rattle.fr_seen.proofs.observed.seen_courses_hold.Goals as goal

pub returns-clause-hold : goal.returns-clause-hold
returns-clause-hold c = seen_courses_hold

pub returns-clause-on : goal.returns-clause-on
returns-clause-on c = seen_nodes_go_on
