use Rattle.fr_whole.proofs.Settling.{files_settle}
use Rattle.fr_whole.proofs.settles.files_settle.Goals as goal

pub returns : goal.returns
returns c = files_settle
