use Rattle.fr_promise.proofs.JoinBounds.{group_spreads_go, next_group_spread_goes, sharp_group_spread_goes}
use Rattle.fr_promise.proofs.joining.group_spreads_go.Goals as goal

pub returns-clause-next : goal.returns-clause-next
returns-clause-next c = next_group_spread_goes

pub returns-clause-through : goal.returns-clause-through
returns-clause-through c = group_spreads_go

pub returns-clause-sharp : goal.returns-clause-sharp
returns-clause-sharp c = sharp_group_spread_goes
