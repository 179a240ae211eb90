use Rattle.fr_precision.proofs.StepLaws.{next_is_in_sync, sync_is_kept_lem, sync_of_all_is_kept}
use Rattle.fr_precision.proofs.step.sync_is_kept.Goals as goal

pub returns-clause-two : goal.returns-clause-two
returns-clause-two c = sync_is_kept_lem

pub returns-clause-all : goal.returns-clause-all
returns-clause-all c = sync_of_all_is_kept

pub returns-clause-next : goal.returns-clause-next
returns-clause-next c = next_is_in_sync
