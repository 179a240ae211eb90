use Rattle.fr_sharp.proofs.FromFiles.{files_keep_sharp_precision as files_keep_sharp_precision_lem}
use Rattle.fr_sharp.proofs.files.files_keep_sharp_precision.Goals as goal

pub returns : goal.returns
returns c = files_keep_sharp_precision_lem c.held_walks_keep_sharp_sync.ensures.each c.held_walks_keep_sharp_sync.ensures.precise
