use Rattle.fr_worked.proofs.LossesWorked.{losing_files_are_covered, losing_files_keep}
use Rattle.fr_worked.proofs.lossy_files.files_that_lose_frames.Goals as goal

pub returns-clause-covered : goal.returns-clause-covered
returns-clause-covered c = losing_files_are_covered

pub returns-clause-keeps : goal.returns-clause-keeps
returns-clause-keeps c = losing_files_keep c.histories_keep_through_losses.ensures.keep c.heard_numbers.ensures.later
