use Rattle.fr_history.specs.History.{row_for}
use Rattle.fr_worked.proofs.FarComes.{far_cycles, far_is_synced, far_unfollowed}
use Rattle.fr_worked.proofs.UnevenStated.{far_is_stated}
use Rattle.fr_worked.proofs.far.a_far_follower.Goals as goal

pub returns-clause-comes : goal.returns-clause-comes
returns-clause-comes c = far_cycles

pub returns-clause-stated : goal.returns-clause-stated
returns-clause-stated c = far_is_stated

pub returns-clause-never : goal.returns-clause-never
returns-clause-never c = far_unfollowed

pub returns-clause-synced : goal.returns-clause-synced
returns-clause-synced c = far_is_synced c.stated_runs_are_synced.ensures

pub returns-clause-far : goal.returns-clause-far
unfolding row_for
returns-clause-far c = record { lt = tt }
