use Rattle.fr_runs.proofs.RunFlutter.{stated_delays_flutter_lem}
use Rattle.fr_runs.proofs.runs_flutter.stated_delays_flutter.Goals as goal

pub returns : goal.returns
returns c = stated_delays_flutter_lem
