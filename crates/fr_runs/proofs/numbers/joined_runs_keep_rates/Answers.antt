use Rattle.fr_runs.proofs.RowsNumbers.{joined_runs_keep_rates as joined_runs_keep_rates_lem}
use Rattle.fr_runs.proofs.numbers.joined_runs_keep_rates.Goals as goal

pub returns : goal.returns
returns c = joined_runs_keep_rates_lem
