use Rattle.fr_worked.specs.JoinedFiles.{joined_files}
use Rattle.fr_worked.proofs.FilesKept.{keep_from_the_start}
use Rattle.fr_worked.proofs.JoinedFilesAre.{files_decide, joined_files_are, node_3_takes_part}
use Rattle.fr_worked.proofs.joined_files.joined_files_keep_their_precision.Goals as goal

pub returns-clause-decided : goal.returns-clause-decided
returns-clause-decided c = files_decide

pub returns-clause-keep : goal.returns-clause-keep
returns-clause-keep c = keep_from_the_start joined_files c.one_lawful_run.ensures.lawful c.one_lawful_run.ensures.long joined_files_are

pub returns-clause-joins : goal.returns-clause-joins
returns-clause-joins c = node_3_takes_part (keep_from_the_start joined_files c.one_lawful_run.ensures.lawful c.one_lawful_run.ensures.long joined_files_are)
