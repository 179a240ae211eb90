use Rattle.fr_worked.proofs.JoinedFilesWorked.{joining_files_are_covered}
use Rattle.fr_worked.proofs.FilesWorked.{fluttering_files_are_covered, fluttering_files_keep_sharply}
use Rattle.fr_worked.proofs.worked_run.files_that_flutter.Goals as goal

pub returns-clause-covered : goal.returns-clause-covered
returns-clause-covered c = fluttering_files_are_covered

pub returns-clause-keeps : goal.returns-clause-keeps
returns-clause-keeps c = fluttering_files_keep_sharply c.covered_files_keep_sharply.ensures.keep

pub returns-clause-joins : goal.returns-clause-joins
returns-clause-joins c = joining_files_are_covered
