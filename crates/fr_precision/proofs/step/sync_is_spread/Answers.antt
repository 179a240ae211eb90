use Rattle.fr_precision.proofs.StepLaws.{in_sync_is_spread}
use Rattle.fr_precision.proofs.step.sync_is_spread.Goals as goal

pub returns : goal.returns
returns c = in_sync_is_spread
