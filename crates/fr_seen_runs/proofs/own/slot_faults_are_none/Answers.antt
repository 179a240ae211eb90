use Rattle.fr_seen_runs.proofs.OwnFaults.{slot_faults_are_none}
use Rattle.fr_seen_runs.proofs.own.slot_faults_are_none.Goals as goal

pub returns : goal.returns
returns c = slot_faults_are_none
