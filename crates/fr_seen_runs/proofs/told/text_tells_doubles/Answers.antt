use Rattle.fr_seen_runs.proofs.ToldDoubles.{text_tells_doubles}
use Rattle.fr_seen_runs.proofs.told.text_tells_doubles.Goals as goal

pub returns : goal.returns
returns c = text_tells_doubles
