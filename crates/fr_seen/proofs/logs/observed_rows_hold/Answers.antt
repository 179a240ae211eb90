use Rattle.fr_seen.proofs.RowLaws.{observed_next_rows_hold, observed_rows_hold}
use Rattle.fr_seen.proofs.logs.observed_rows_hold.Goals as goal

pub returns-clause-rows : goal.returns-clause-rows
returns-clause-rows c = observed_rows_hold

pub returns-clause-next : goal.returns-clause-next
returns-clause-next c = observed_next_rows_hold
