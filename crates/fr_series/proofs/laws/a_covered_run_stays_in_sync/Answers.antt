use Rattle.fr_series.proofs.Staying.{stays_in_sync}
use Rattle.fr_series.proofs.laws.a_covered_run_stays_in_sync.Goals as goal

pub returns : goal.returns
returns c = stays_in_sync c.files_keep_precision.ensures
