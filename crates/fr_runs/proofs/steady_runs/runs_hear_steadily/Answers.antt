use Rattle.fr_runs.proofs.RowsSupplied.{covered_runs_are_steady, rows_are_sharp_doubles, rows_hear_steadily, steady_runs_are_later, timed_runs_are_later}
use Rattle.fr_runs.proofs.steady_runs.runs_hear_steadily.Goals as goal

pub returns-clause-covered : goal.returns-clause-covered
returns-clause-covered c = covered_runs_are_steady

pub returns-clause-timed : goal.returns-clause-timed
returns-clause-timed c = timed_runs_are_later

pub returns-clause-steady : goal.returns-clause-steady
returns-clause-steady c = steady_runs_are_later

pub returns-clause-hear : goal.returns-clause-hear
returns-clause-hear c = rows_hear_steadily

pub returns-clause-double : goal.returns-clause-double
returns-clause-double c = rows_are_sharp_doubles
