use Rattle.fr_history.proofs.Unfollowed.{runs_that_none_joins as runs_that_none_joins_lem}
use Rattle.fr_history.proofs.runs.runs_that_none_joins.Goals as goal

pub returns : goal.returns
returns c = runs_that_none_joins_lem
