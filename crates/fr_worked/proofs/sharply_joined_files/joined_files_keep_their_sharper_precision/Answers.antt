use Rattle.std.proofs.Common.{false, true}
use Rattle.fr_worked.specs.SharplyJoinedFiles.{alone_files, beside_files}
use Rattle.fr_worked.proofs.SharplyJoinedAre.{alone_joins, alone_worked, beside_joins, beside_worked, keep_sharply_from_the_start}
use Rattle.fr_worked.proofs.sharply_joined_files.joined_files_keep_their_sharper_precision.Goals as goal

pub returns-clause-alone : goal.returns-clause-alone
returns-clause-alone c =
    keep_sharply_from_the_start false alone_files 250 c.one_lawful_run.ensures.lawful c.one_lawful_run.ensures.long c.joined_files_keep_sharp_precision.ensures alone_worked

pub returns-clause-alone_joins : goal.returns-clause-alone_joins
returns-clause-alone_joins c =
    alone_joins (keep_sharply_from_the_start false alone_files 250 c.one_lawful_run.ensures.lawful c.one_lawful_run.ensures.long c.joined_files_keep_sharp_precision.ensures alone_worked)

pub returns-clause-beside : goal.returns-clause-beside
returns-clause-beside c =
    keep_sharply_from_the_start true beside_files 250 c.one_lawful_run.ensures.lawful c.one_lawful_run.ensures.long c.joined_files_keep_sharp_precision.ensures beside_worked

pub returns-clause-beside_joins : goal.returns-clause-beside_joins
returns-clause-beside_joins c =
    beside_joins (keep_sharply_from_the_start true beside_files 250 c.one_lawful_run.ensures.lawful c.one_lawful_run.ensures.long c.joined_files_keep_sharp_precision.ensures beside_worked)
