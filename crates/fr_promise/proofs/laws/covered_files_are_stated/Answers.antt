use Rattle.fr_promise.proofs.Stating.{covered_files_are_stated}
use Rattle.fr_promise.proofs.laws.covered_files_are_stated.Goals as goal

pub returns : goal.returns
returns c = covered_files_are_stated
