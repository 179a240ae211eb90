use Rattle.fr_sharp.proofs.JoinedFromFiles.{joined_files_keep_sharp_precision}
use Rattle.fr_sharp.proofs.joined_files.joined_files_keep_sharp_precision.Goals as goal

pub returns : goal.returns
returns c = joined_files_keep_sharp_precision
