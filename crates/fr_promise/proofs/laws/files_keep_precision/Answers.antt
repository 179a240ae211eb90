use Rattle.fr_promise.proofs.Promising.{files_keep_precision as files_keep_precision_lem}
use Rattle.fr_promise.proofs.laws.files_keep_precision.Goals as goal

pub returns : goal.returns
returns c = files_keep_precision_lem
