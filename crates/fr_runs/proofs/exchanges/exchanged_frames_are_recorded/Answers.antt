use Rattle.fr_runs.proofs.Reception.{absent_is_not_recorded, recorded_is_placed, regular_is_recorded}
use Rattle.fr_runs.proofs.exchanges.exchanged_frames_are_recorded.Goals as goal

pub returns-clause-placed : goal.returns-clause-placed
returns-clause-placed c = recorded_is_placed

pub returns-clause-recorded : goal.returns-clause-recorded
returns-clause-recorded c = regular_is_recorded

pub returns-clause-absent : goal.returns-clause-absent
returns-clause-absent c = absent_is_not_recorded
