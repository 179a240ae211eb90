use Rattle.fr_seen_runs.proofs.SteadyRuns.{steady_runs_miss_none as steady_runs_miss_none_lem}
use Rattle.fr_seen_runs.proofs.told.steady_runs_miss_none.Goals as goal

pub returns : goal.returns
returns c = steady_runs_miss_none_lem
