use Rattle.fr_promise.proofs.SharpFollowed.{sharp_rounds_are_followed}
use Rattle.fr_promise.proofs.SharpGrouped.{sharp_groups_are_kept}
use Rattle.fr_promise.proofs.grouping.sharp_groups_are_kept.Goals as goal

pub returns-clause-kept : goal.returns-clause-kept
returns-clause-kept c = sharp_groups_are_kept

pub returns-clause-round : goal.returns-clause-round
returns-clause-round c = sharp_rounds_are_followed
