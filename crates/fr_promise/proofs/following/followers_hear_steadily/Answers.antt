use Rattle.fr_promise.proofs.FollowersSupplied.{followers_hear_steadily}
use Rattle.fr_promise.proofs.SharpCatches.{catches_are_sharp}
use Rattle.fr_promise.proofs.following.followers_hear_steadily.Goals as goal

pub returns-clause-hear : goal.returns-clause-hear
returns-clause-hear c = followers_hear_steadily

pub returns-clause-caught : goal.returns-clause-caught
returns-clause-caught c = catches_are_sharp
