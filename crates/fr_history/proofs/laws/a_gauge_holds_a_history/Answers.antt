use Rattle.fr_history.proofs.Gauged.{gauge_holds_more, gauge_holds_none}
use Rattle.fr_history.proofs.laws.a_gauge_holds_a_history.Goals as goal

pub returns-clause-none : goal.returns-clause-none
returns-clause-none c = gauge_holds_none

pub returns-clause-more : goal.returns-clause-more
returns-clause-more c = gauge_holds_more
