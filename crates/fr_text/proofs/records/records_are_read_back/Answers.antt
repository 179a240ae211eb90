use Rattle.fr_text.proofs.RecordLines.{records-read-back}
use Rattle.fr_text.proofs.records.records_are_read_back.Goals as goal

pub returns : goal.returns
returns c = records-read-back
