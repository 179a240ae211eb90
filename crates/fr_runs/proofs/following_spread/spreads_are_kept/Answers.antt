use Rattle.fr_runs.proofs.Shrunken.{spreads_are_kept_lem}
use Rattle.fr_runs.proofs.following_spread.spreads_are_kept.Goals as goal

pub returns : goal.returns
returns c = spreads_are_kept_lem
