use Rattle.fr_seen_runs.proofs.KnownKept.{known_is_kept}
use Rattle.fr_seen_runs.proofs.MissingRows.{missings_are_so as missings_are_so_lem}
use Rattle.fr_seen_runs.proofs.known.missings_are_so.Goals as goal

pub returns : goal.returns
returns c = missings_are_so_lem known_is_kept
