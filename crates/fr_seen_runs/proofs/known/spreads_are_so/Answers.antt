use Rattle.fr_seen_runs.proofs.Contradicted.{spreads_are_so as spreads_are_so_lem}
use Rattle.fr_seen_runs.proofs.KnownKept.{standings_are_so}
use Rattle.fr_seen_runs.proofs.known.spreads_are_so.Goals as goal

pub returns : goal.returns
returns c = spreads_are_so_lem standings_are_so
