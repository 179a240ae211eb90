use Rattle.fr_promise.proofs.JoinedBeginning.{followed_listeners_begin}
use Rattle.fr_promise.proofs.JoinedDoubles.{followed_doubles_are_kept, followed_doubles_hear, unfollowed_is_followed}
use Rattle.fr_promise.proofs.JoinedFollowers.{steady_followers_join}
use Rattle.fr_promise.proofs.JoinedNext.{followed_doubles_go_on}
use Rattle.fr_promise.proofs.joined.followed_doubles_go_on.Goals as goal

pub returns-clause-begins : goal.returns-clause-begins
returns-clause-begins c = unfollowed_is_followed

pub returns-clause-hear : goal.returns-clause-hear
returns-clause-hear c = followed_doubles_hear

pub returns-clause-kept : goal.returns-clause-kept
returns-clause-kept c = followed_doubles_are_kept

pub returns-clause-next : goal.returns-clause-next
returns-clause-next c = followed_doubles_go_on

pub returns-clause-join : goal.returns-clause-join
returns-clause-join c = steady_followers_join

pub returns-clause-listen : goal.returns-clause-listen
returns-clause-listen c = followed_listeners_begin
