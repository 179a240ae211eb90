use Rattle.fr_promise.proofs.SharpGrouped.{all_is_heard_of_both_lem}
use Rattle.fr_promise.proofs.grouping.all_is_heard_of_both.Goals as goal

pub returns : goal.returns
returns c = all_is_heard_of_both_lem
