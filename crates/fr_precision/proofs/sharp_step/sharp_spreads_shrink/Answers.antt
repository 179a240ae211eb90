use Rattle.fr_precision.proofs.StepLemmas.{actions_lie_in_reach, in_sync_is_sharp, macroticks_stay_sharp, next_is_near, next_is_sharp, receivers_come_sharply, sharp_is_wider, sharp_spreads_shrink_lem, spreads_shrink_in_reach}
use Rattle.fr_precision.proofs.sharp_step.sharp_spreads_shrink.Goals as goal

pub returns-clause-two : goal.returns-clause-two
returns-clause-two c = receivers_come_sharply

pub returns-clause-reach : goal.returns-clause-reach
returns-clause-reach c = actions_lie_in_reach

pub returns-clause-within : goal.returns-clause-within
returns-clause-within c = spreads_shrink_in_reach

pub returns-clause-shrink : goal.returns-clause-shrink
returns-clause-shrink c = sharp_spreads_shrink_lem

pub returns-clause-macroticks : goal.returns-clause-macroticks
returns-clause-macroticks c = macroticks_stay_sharp

pub returns-clause-near : goal.returns-clause-near
returns-clause-near c = next_is_near

pub returns-clause-next : goal.returns-clause-next
returns-clause-next c = next_is_sharp

pub returns-clause-sync : goal.returns-clause-sync
returns-clause-sync c = in_sync_is_sharp

pub returns-clause-wider : goal.returns-clause-wider
returns-clause-wider c = sharp_is_wider
