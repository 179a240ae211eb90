use Rattle.fr_seen_runs.proofs.Contradicted.{verdict_tells_first}
use Rattle.fr_seen_runs.proofs.told.verdict_tells_first.Goals as goal

pub returns : goal.returns
returns c = verdict_tells_first
