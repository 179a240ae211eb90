-- So no log that is read of a run whose nodes start near each other has the verdict no, where the numbers suffice.
use Rattle.fr_seen_runs.specs.InTime.{NoNearRunIsContradicted}
use Rattle.fr_seen_runs.proofs.Contradicted.{none_is_contradicted}
use Rattle.fr_seen_runs.proofs.InTime.{observed}
use Rattle.fr_seen_runs.proofs.KnownKept.{standings_are_so}

pub no_near_run_is_contradicted : NoNearRunIsContradicted
no_near_run_is_contradicted x h base delays clock l from fault r stated is_sure own is =
    none_is_contradicted standings_are_so x h base delays clock l fault (observed x h base delays clock l from r is_sure) stated own is
