use Rattle.fr_runs.proofs.Lawful.{lawful_cycles_run as lawful_cycles_run_lem}
use Rattle.fr_runs.proofs.going_on.lawful_cycles_run.Goals as goal

pub returns : goal.returns
returns c = lawful_cycles_run_lem
