use Rattle.fr_seen_runs.proofs.KnownFaults.{no_fault_beyond, no_known_fault, no_known_frame_missing}
use Rattle.fr_seen_runs.proofs.known.known_faults_are_none.Goals as goal

pub returns-clause-beyond : goal.returns-clause-beyond
returns-clause-beyond c = no_fault_beyond

pub returns-clause-missing : goal.returns-clause-missing
returns-clause-missing c = no_known_frame_missing

pub returns-clause-none : goal.returns-clause-none
returns-clause-none c = no_known_fault
