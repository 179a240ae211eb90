use Rattle.fr_runs.proofs.Checked.{sixth_check_suffices, seventh_check_suffices, last_checks_suffice}
use Rattle.fr_runs.proofs.room.join_checks_suffice.Goals as goal

pub returns-clause-rate : goal.returns-clause-rate
returns-clause-rate c = sixth_check_suffices

pub returns-clause-limit : goal.returns-clause-limit
returns-clause-limit c = seventh_check_suffices

pub returns-clause-slot : goal.returns-clause-slot
returns-clause-slot c = last_checks_suffice
