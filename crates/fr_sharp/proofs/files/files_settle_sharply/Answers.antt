use Rattle.fr_sharp.proofs.FromFiles.{files_settle_sharply_lem}
use Rattle.fr_sharp.proofs.files.files_settle_sharply.Goals as goal

pub returns : goal.returns
returns c = files_settle_sharply_lem
