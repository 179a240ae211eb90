use Rattle.fr_promise.proofs.SharpFollowed.{steady_rounds_are_followed}
use Rattle.fr_promise.proofs.SharpGrouped.{steady_groups_are_kept}
use Rattle.fr_promise.proofs.grouping.steady_groups_are_kept.Goals as goal

pub returns-clause-kept : goal.returns-clause-kept
returns-clause-kept c = steady_groups_are_kept

pub returns-clause-round : goal.returns-clause-round
returns-clause-round c = steady_rounds_are_followed
