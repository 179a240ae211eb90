use Rattle.fr_seen_runs.proofs.KnownFaults.{no_skew_fault_within}
use Rattle.fr_seen_runs.proofs.known.skew_faults_within_are_none.Goals as goal

pub returns : goal.returns
returns c = no_skew_fault_within
