use Rattle.fr_base.proofs.Putting.{piece}
use Rattle.fr_text.proofs.putting.put_text.Goals as goal

pub returns : goal.returns
returns g c = piece c.put.result c.requires c.put.ensures
