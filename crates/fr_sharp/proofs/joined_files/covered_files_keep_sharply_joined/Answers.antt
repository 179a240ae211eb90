use Rattle.fr_sharp.proofs.JoinedFromFiles.{covered_files_keep_sharply_joined}
use Rattle.fr_sharp.proofs.joined_files.covered_files_keep_sharply_joined.Goals as goal

pub returns : goal.returns
returns c = covered_files_keep_sharply_joined
