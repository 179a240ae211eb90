use Rattle.fr_seen.proofs.SendersApart.{senders_lie_as_seen as senders_lie_as_seen_lem}
use Rattle.fr_seen.proofs.log_doubles.senders_lie_as_seen.Goals as goal

pub returns : goal.returns
returns c = senders_lie_as_seen_lem
