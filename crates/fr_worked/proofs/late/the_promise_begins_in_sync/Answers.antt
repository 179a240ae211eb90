use Rattle.fr_history.specs.Worked.{roomy_cluster}
use Rattle.fr_worked.specs.Late.{late_4}
use Rattle.fr_worked.proofs.LateBegins.{late_begins_in_sync, late_cycles, late_is_above, late_is_kept, late_is_stated, late_unfollowed}
use Rattle.fr_worked.proofs.late.the_promise_begins_in_sync.Goals as goal

pub returns-clause-comes : goal.returns-clause-comes
returns-clause-comes c = late_cycles

pub returns-clause-stated : goal.returns-clause-stated
returns-clause-stated c = late_is_stated

pub returns-clause-first : goal.returns-clause-first
returns-clause-first c = c.one_first_unfollowed_sync.ensures.found roomy_cluster late_4 1 late_unfollowed

pub returns-clause-keeps : goal.returns-clause-keeps
returns-clause-keeps c = late_is_kept c.one_lawful_run.ensures.lawful

pub returns-clause-above : goal.returns-clause-above
returns-clause-above c = late_is_above

pub returns-clause-before : goal.returns-clause-before
returns-clause-before c = late_begins_in_sync
