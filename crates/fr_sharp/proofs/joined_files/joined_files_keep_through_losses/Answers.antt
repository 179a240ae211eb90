use Rattle.fr_sharp.proofs.JoinedFromLossyFiles.{covered_files_keep_joined_through_losses, joined_files_keep_through_losses_lem, lossy_files_give_joined_runs}
use Rattle.fr_sharp.proofs.joined_files.joined_files_keep_through_losses.Goals as goal

pub returns-clause-keep : goal.returns-clause-keep
returns-clause-keep c = joined_files_keep_through_losses_lem c.joined_histories_keep_through_losses.ensures c.heard_numbers.ensures.later

pub returns-clause-covered : goal.returns-clause-covered
returns-clause-covered c = covered_files_keep_joined_through_losses c.joined_histories_keep_through_losses.ensures c.heard_numbers.ensures.later

pub returns-clause-runs : goal.returns-clause-runs
returns-clause-runs c = lossy_files_give_joined_runs
