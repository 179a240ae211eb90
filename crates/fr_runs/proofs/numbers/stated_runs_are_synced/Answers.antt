use Rattle.fr_runs.proofs.RowsNumbers.{stated_runs_are_synced as stated_runs_are_synced_lem}
use Rattle.fr_runs.proofs.numbers.stated_runs_are_synced.Goals as goal

pub returns : goal.returns
returns c = stated_runs_are_synced_lem c.one_lawful_run.ensures.lawful c.one_lawful_run.ensures.long
