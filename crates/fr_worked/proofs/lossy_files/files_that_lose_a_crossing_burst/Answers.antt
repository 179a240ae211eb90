use Rattle.fr_worked.proofs.CrossingWorked.{crossing_files_are_covered, crossing_files_keep}
use Rattle.fr_worked.proofs.lossy_files.files_that_lose_a_crossing_burst.Goals as goal

pub returns-clause-covered : goal.returns-clause-covered
returns-clause-covered c = crossing_files_are_covered

pub returns-clause-keeps : goal.returns-clause-keeps
returns-clause-keeps c = crossing_files_keep c.histories_keep_through_losses.ensures.keep c.heard_numbers.ensures.later
