use Rattle.fr_runs.proofs.Links.{absent_is_not_stored, regular_is_stored_on, stored_is_placed}
use Rattle.fr_runs.proofs.exchanges.linked_frames_are_stored.Goals as goal

pub returns-clause-placed : goal.returns-clause-placed
returns-clause-placed c = stored_is_placed

pub returns-clause-stored : goal.returns-clause-stored
returns-clause-stored c = regular_is_stored_on

pub returns-clause-absent : goal.returns-clause-absent
returns-clause-absent c = absent_is_not_stored
