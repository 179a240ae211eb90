use Rattle.fr_precision.proofs.LastingLemmas.{lossy_doubles_keep, lossy_doubles_stay_apart}
use Rattle.fr_promise.proofs.among.losses_last.Goals as goal

pub returns-clause-keep : goal.returns-clause-keep
returns-clause-keep c = lossy_doubles_keep

pub returns-clause-apart : goal.returns-clause-apart
returns-clause-apart c = lossy_doubles_stay_apart
