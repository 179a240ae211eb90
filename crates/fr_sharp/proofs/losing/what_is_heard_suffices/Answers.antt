use Rattle.fr_traffic.proofs.HeardInPart.{rounds_in_part_compute_own}
use Rattle.fr_sharp.proofs.JoinedInPart.{followed_doubles_hear_in_part}
use Rattle.fr_sharp.proofs.RowsHear.{rows_hear}
use Rattle.fr_sharp.proofs.losing.what_is_heard_suffices.Goals as goal

pub returns-clause-rounds : goal.returns-clause-rounds
returns-clause-rounds c = rounds_in_part_compute_own

pub returns-clause-rows : goal.returns-clause-rows
returns-clause-rows c = rows_hear

pub returns-clause-joined : goal.returns-clause-joined
returns-clause-joined c = followed_doubles_hear_in_part
