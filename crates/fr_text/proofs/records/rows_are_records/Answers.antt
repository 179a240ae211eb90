use Rattle.fr_text.proofs.RecordLines.{rows-records}
use Rattle.fr_text.proofs.records.rows_are_records.Goals as goal

pub returns : goal.returns
returns c = rows-records
