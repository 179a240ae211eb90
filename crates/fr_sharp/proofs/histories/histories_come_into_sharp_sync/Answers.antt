use Rattle.fr_sharp.proofs.RunSettles.{histories_begin_active, histories_keep_to_spreads, histories_reach_sharp_sync, older_histories_settle}
use Rattle.fr_sharp.proofs.histories.histories_come_into_sharp_sync.Goals as goal

pub returns-clause-active : goal.returns-clause-active
returns-clause-active c = histories_begin_active

pub returns-clause-spreads : goal.returns-clause-spreads
returns-clause-spreads c = histories_keep_to_spreads

pub returns-clause-reached : goal.returns-clause-reached
returns-clause-reached c = histories_reach_sharp_sync

pub returns-clause-older : goal.returns-clause-older
returns-clause-older c = older_histories_settle
