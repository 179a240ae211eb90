use Rattle.fr_worked.proofs.WalkingFilesAre.{keep_though_lengths_walk, keep_while_first_rates_last, keep_while_the_walk_lasts}
use Rattle.fr_worked.proofs.walking_files.walking_files_keep_while_it_lasts.Goals as goal

pub returns-clause-held : goal.returns-clause-held
returns-clause-held c =
    keep_though_lengths_walk c.one_lawful_run.ensures.lawful c.one_lawful_run.ensures.long c.files_keep_sharp_precision.ensures

pub returns-clause-alone : goal.returns-clause-alone
returns-clause-alone c =
    keep_while_the_walk_lasts c.one_lawful_run.ensures.lawful c.one_lawful_run.ensures.long c.files_keep_sharp_precision.ensures

pub returns-clause-joined : goal.returns-clause-joined
returns-clause-joined c =
    keep_while_first_rates_last c.one_lawful_run.ensures.lawful c.one_lawful_run.ensures.long c.joined_files_keep_sharp_precision.ensures c.joined_histories_keep_sharp_sync.ensures.lasts
