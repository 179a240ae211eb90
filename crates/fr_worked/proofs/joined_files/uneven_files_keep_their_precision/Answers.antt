use Rattle.fr_worked.specs.JoinedFiles.{uneven_files}
use Rattle.fr_worked.proofs.FilesKept.{keep_from_the_start}
use Rattle.fr_worked.proofs.UnevenFilesAre.{node_5_takes_part, node_6_takes_part, uneven_files_are}
use Rattle.fr_worked.proofs.joined_files.uneven_files_keep_their_precision.Goals as goal

pub returns-clause-keep : goal.returns-clause-keep
returns-clause-keep c = keep_from_the_start uneven_files c.one_lawful_run.ensures.lawful c.one_lawful_run.ensures.long uneven_files_are

pub returns-clause-joins_5 : goal.returns-clause-joins_5
returns-clause-joins_5 c = node_5_takes_part (keep_from_the_start uneven_files c.one_lawful_run.ensures.lawful c.one_lawful_run.ensures.long uneven_files_are)

pub returns-clause-joins_6 : goal.returns-clause-joins_6
returns-clause-joins_6 c = node_6_takes_part (keep_from_the_start uneven_files c.one_lawful_run.ensures.lawful c.one_lawful_run.ensures.long uneven_files_are)
