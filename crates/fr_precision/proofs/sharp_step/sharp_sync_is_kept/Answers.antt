use Rattle.fr_precision.proofs.StepLemmas.{next_is_in_sharp_sync, sharp_sync_draws, sharp_sync_is_kept_lem}
use Rattle.fr_precision.proofs.sharp_step.sharp_sync_is_kept.Goals as goal

pub returns-clause-draws : goal.returns-clause-draws
returns-clause-draws c = sharp_sync_draws

pub returns-clause-kept : goal.returns-clause-kept
returns-clause-kept c = sharp_sync_is_kept_lem

pub returns-clause-next : goal.returns-clause-next
returns-clause-next c = next_is_in_sharp_sync
