use Rattle.fr_seen_runs.proofs.OwnFaults.{own_faults_are_none}
use Rattle.fr_seen_runs.proofs.own.own_faults_are_none.Goals as goal

pub returns : goal.returns
returns c = own_faults_are_none
