use Rattle.fr_promise.proofs.JoinedBeginning.{joined_listeners_begin}
use Rattle.fr_promise.proofs.JoinedDoubles.{joined_doubles_are_kept, joined_is_in_sharp_sync, unfollowed_is_joined}
use Rattle.fr_promise.proofs.JoinedFollowers.{joined_followers_join}
use Rattle.fr_promise.proofs.JoinedNext.{joined_doubles_go_on}
use Rattle.fr_promise.proofs.joined.joined_doubles_go_on.Goals as goal

pub returns-clause-begins : goal.returns-clause-begins
returns-clause-begins c = unfollowed_is_joined

pub returns-clause-sync : goal.returns-clause-sync
returns-clause-sync c = joined_is_in_sharp_sync

pub returns-clause-kept : goal.returns-clause-kept
returns-clause-kept c = joined_doubles_are_kept

pub returns-clause-next : goal.returns-clause-next
returns-clause-next c = joined_doubles_go_on

pub returns-clause-join : goal.returns-clause-join
returns-clause-join c = joined_followers_join

pub returns-clause-listen : goal.returns-clause-listen
returns-clause-listen c = joined_listeners_begin
