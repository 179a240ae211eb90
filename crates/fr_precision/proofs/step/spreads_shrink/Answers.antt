use Rattle.fr_precision.proofs.StepLaws.{next_is_spread, spreads_shrink_lem, sync_shrinks}
use Rattle.fr_precision.proofs.step.spreads_shrink.Goals as goal

pub returns-clause-two : goal.returns-clause-two
returns-clause-two c = spreads_shrink_lem

pub returns-clause-next : goal.returns-clause-next
returns-clause-next c = next_is_spread

pub returns-clause-sync : goal.returns-clause-sync
returns-clause-sync c = sync_shrinks
