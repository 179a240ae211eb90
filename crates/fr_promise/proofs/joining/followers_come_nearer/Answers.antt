use Rattle.fr_promise.proofs.JoinBounds.{followers_come_nearer_lem}
use Rattle.fr_promise.proofs.joining.followers_come_nearer.Goals as goal

pub returns : goal.returns
returns c = followers_come_nearer_lem
