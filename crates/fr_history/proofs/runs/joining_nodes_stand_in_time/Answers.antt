use Rattle.fr_history.proofs.Standing.{followers_have_no_row, rows_stay, stand_in_time}
use Rattle.fr_history.proofs.runs.joining_nodes_stand_in_time.Goals as goal

pub returns-clause-when : goal.returns-clause-when
returns-clause-when c = stand_in_time

pub returns-clause-apart : goal.returns-clause-apart
returns-clause-apart c = followers_have_no_row

pub returns-clause-stay : goal.returns-clause-stay
returns-clause-stay c = rows_stay
