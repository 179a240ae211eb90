use Rattle.fr_damage.proofs.Changes.{one_bit}
use Rattle.fr_damage.proofs.crcs.one_bit_changes_the_crc.Goals as goal

pub returns : goal.returns
returns c = one_bit
