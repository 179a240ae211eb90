use Rattle.fr_runs.proofs.Followed.{first_lengths_are_near_next, first_double_is_near, second_start_is_near}
use Rattle.fr_runs.proofs.following.followers_stay_near.Goals as goal

pub returns-clause-lengths : goal.returns-clause-lengths
returns-clause-lengths c = first_lengths_are_near_next

pub returns-clause-first : goal.returns-clause-first
returns-clause-first c = first_double_is_near

pub returns-clause-second : goal.returns-clause-second
returns-clause-second c = second_start_is_near
