use Rattle.fr_skew.proofs.Closeness.{in_sync_is}
use Rattle.fr_skew.proofs.laws.in_sync_by_spreads.Goals as goal

pub returns : goal.returns
returns c = in_sync_is
