use Rattle.fr_promise.proofs.Drifts.{drift_of_a_file_fits}
use Rattle.fr_promise.proofs.laws.drift_of_a_file_fits.Goals as goal

pub returns : goal.returns
returns c = drift_of_a_file_fits
