use Rattle.fr_sharp.proofs.HeldRuns.{held_histories_lem, keep_for_ever_lem}
use Rattle.fr_sharp.proofs.held.held_walks_keep_sharp_sync.Goals as goal

pub returns-clause-each : goal.returns-clause-each
returns-clause-each c = held_histories_lem c.levels_hold.ensures.there c.levels_hold.ensures.hold

pub returns-clause-precise : goal.returns-clause-precise
returns-clause-precise c = keep_for_ever_lem c.levels_hold.ensures.there c.levels_hold.ensures.hold
