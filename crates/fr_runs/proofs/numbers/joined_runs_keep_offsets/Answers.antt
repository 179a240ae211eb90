use Rattle.fr_runs.proofs.RowsNumbers.{joined_runs_keep_offsets as joined_runs_keep_offsets_lem}
use Rattle.fr_runs.proofs.numbers.joined_runs_keep_offsets.Goals as goal

pub returns : goal.returns
returns c = joined_runs_keep_offsets_lem
