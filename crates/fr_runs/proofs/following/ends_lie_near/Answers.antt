use Rattle.fr_runs.proofs.Followed.{ends_lie_near_lem, first_start_is_near_ends}
use Rattle.fr_runs.proofs.following.ends_lie_near.Goals as goal

pub returns-clause-ends : goal.returns-clause-ends
returns-clause-ends c = ends_lie_near_lem

pub returns-clause-first : goal.returns-clause-first
returns-clause-first c = first_start_is_near_ends
