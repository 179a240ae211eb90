use Rattle.fr_seen_runs.proofs.InTime.{near_is_timely as near_is_timely_lem}
use Rattle.fr_seen_runs.proofs.in_time.near_is_timely.Goals as goal

pub returns : goal.returns
returns c = near_is_timely_lem
