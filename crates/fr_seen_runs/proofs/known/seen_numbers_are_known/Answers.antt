use Rattle.fr_seen_runs.proofs.KnownDoubles.{seen_is_known}
use Rattle.fr_seen_runs.proofs.known.seen_numbers_are_known.Goals as goal

pub returns : goal.returns
returns c = seen_is_known
