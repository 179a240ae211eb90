use Rattle.fr_runs.proofs.Onward.{succeeding_goes_on_lem}
use Rattle.fr_runs.proofs.round_laws.succeeding_goes_on.Goals as goal

pub returns : goal.returns
returns c = succeeding_goes_on_lem
