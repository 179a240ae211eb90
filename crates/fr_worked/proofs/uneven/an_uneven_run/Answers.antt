use Rattle.fr_worked.proofs.UnevenComes.{uneven_run_comes}
use Rattle.fr_worked.proofs.uneven.an_uneven_run.Goals as goal

pub returns : goal.returns
returns c = uneven_run_comes
