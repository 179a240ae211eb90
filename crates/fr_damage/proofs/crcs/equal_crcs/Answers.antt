use Rattle.fr_damage.proofs.Changes.{equal_crcs}
use Rattle.fr_damage.proofs.crcs.equal_crcs.Goals as goal

pub returns : goal.returns
returns c = equal_crcs
