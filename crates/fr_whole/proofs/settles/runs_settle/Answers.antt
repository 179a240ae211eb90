use Rattle.fr_whole.proofs.Settling.{runs_settle}
use Rattle.fr_whole.proofs.settles.runs_settle.Goals as goal

pub returns : goal.returns
returns c = runs_settle
