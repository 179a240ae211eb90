use Rattle.fr_runs.proofs.Covers.{coverage_suffices}
use Rattle.fr_runs.proofs.supplying.coverage_suffices.Goals as goal

pub returns : goal.returns
returns c = coverage_suffices
