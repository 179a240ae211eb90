use Rattle.fr_seen_runs.proofs.KnownKept.{standings_are_so as standings_are_so_lem}
use Rattle.fr_seen_runs.proofs.known.standings_are_so.Goals as goal

pub returns : goal.returns
returns c = standings_are_so_lem
