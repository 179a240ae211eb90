use Rattle.fr_seen.proofs.WorkedRows.{worked_row_lem}
use Rattle.fr_seen.proofs.worked.worked_row.Goals as goal

pub returns : goal.returns
returns c = worked_row_lem
