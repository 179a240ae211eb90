use Rattle.fr_sharp.proofs.FromLossyFiles.{covered_files_are_awake, covered_files_keep_through_losses, lossy_files_give_runs}
use Rattle.fr_sharp.proofs.lossy_files.lossy_files_give_runs.Goals as goal

pub returns-clause-keep : goal.returns-clause-keep
returns-clause-keep c = covered_files_keep_through_losses c.histories_keep_through_losses.ensures.keep c.heard_numbers.ensures.later

pub returns-clause-runs : goal.returns-clause-runs
returns-clause-runs c = lossy_files_give_runs

pub returns-clause-awake : goal.returns-clause-awake
returns-clause-awake c = covered_files_are_awake
