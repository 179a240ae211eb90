use Rattle.fr_seen_runs.proofs.InTimeVerdicts.{no_near_run_is_contradicted as no_near_run_is_contradicted_lem}
use Rattle.fr_seen_runs.proofs.in_time.no_near_run_is_contradicted.Goals as goal

pub returns : goal.returns
returns c = no_near_run_is_contradicted_lem
