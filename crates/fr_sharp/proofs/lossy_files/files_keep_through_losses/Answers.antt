use Rattle.fr_sharp.proofs.FromLossyFiles.{files_keep_through_losses_lem}
use Rattle.fr_sharp.proofs.lossy_files.files_keep_through_losses.Goals as goal

pub returns : goal.returns
returns c = files_keep_through_losses_lem c.histories_keep_through_losses.ensures.keep c.heard_numbers.ensures.later
