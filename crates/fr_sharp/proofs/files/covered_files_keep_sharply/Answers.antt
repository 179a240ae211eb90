use Rattle.fr_sharp.proofs.FromFiles.{covered_files_keep_sharply as covered_files_keep_sharply_lem}
use Rattle.fr_sharp.proofs.HeldRuns.{sync_lasts_on}
use Rattle.fr_precision.proofs.OlderLemmas.{first_check_lasts_on}
use Rattle.fr_sharp.proofs.files.covered_files_keep_sharply.Goals as goal

pub returns-clause-keep : goal.returns-clause-keep
returns-clause-keep c = covered_files_keep_sharply_lem c.held_walks_keep_sharp_sync.ensures.each c.held_walks_keep_sharp_sync.ensures.precise

pub returns-clause-lasts : goal.returns-clause-lasts
returns-clause-lasts c = first_check_lasts_on

pub returns-clause-lasting : goal.returns-clause-lasting
returns-clause-lasting c = sync_lasts_on
