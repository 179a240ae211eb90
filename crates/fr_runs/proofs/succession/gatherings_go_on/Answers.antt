use Rattle.fr_runs.proofs.Whole.{gatherings_go_on as gatherings_go_on_lem}
use Rattle.fr_runs.proofs.succession.gatherings_go_on.Goals as goal

pub returns : goal.returns
returns c = gatherings_go_on_lem
