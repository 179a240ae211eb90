use Rattle.fr_seen_runs.proofs.Contradicted.{no_fault_is_told, told_faults_ask_either, told_faults_ask_judged, told_faults_ask_own_slots}
use Rattle.fr_seen_runs.proofs.KnownKept.{standings_are_so}
use Rattle.fr_seen_runs.proofs.told.no_fault_is_told.Goals as goal

pub returns-clause-run : goal.returns-clause-run
returns-clause-run c = told_faults_ask_either

pub returns-clause-run_with_own_slots : goal.returns-clause-run_with_own_slots
returns-clause-run_with_own_slots c = told_faults_ask_judged

pub returns-clause-stated : goal.returns-clause-stated
returns-clause-stated c = told_faults_ask_own_slots standings_are_so

pub returns-clause-stated_with_own_slots : goal.returns-clause-stated_with_own_slots
returns-clause-stated_with_own_slots c = no_fault_is_told standings_are_so
