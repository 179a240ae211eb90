use Rattle.fr_seen_runs.proofs.Contradicted.{no_run_has_own_faults, none_is_contradicted}
use Rattle.fr_seen_runs.proofs.KnownKept.{standings_are_so}
use Rattle.fr_seen_runs.proofs.verdicts.no_run_is_contradicted.Goals as goal

pub returns-clause-own : goal.returns-clause-own
returns-clause-own c = no_run_has_own_faults

pub returns-clause-sync : goal.returns-clause-sync
returns-clause-sync c = none_is_contradicted standings_are_so
