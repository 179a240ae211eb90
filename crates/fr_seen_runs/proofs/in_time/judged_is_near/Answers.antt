use Rattle.fr_seen_runs.proofs.InTime.{judged_is_near as judged_is_near_lem}
use Rattle.fr_seen_runs.proofs.in_time.judged_is_near.Goals as goal

pub returns : goal.returns
returns c = judged_is_near_lem
