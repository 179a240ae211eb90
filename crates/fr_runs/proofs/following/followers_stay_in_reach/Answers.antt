use Rattle.fr_runs.proofs.Followed.{first_double_is_in_reach, second_double_is_in_reach}
use Rattle.fr_runs.proofs.following.followers_stay_in_reach.Goals as goal

pub returns-clause-first : goal.returns-clause-first
returns-clause-first c = first_double_is_in_reach

pub returns-clause-second : goal.returns-clause-second
returns-clause-second c = second_double_is_in_reach
