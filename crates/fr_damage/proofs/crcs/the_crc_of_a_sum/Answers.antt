use Rattle.fr_damage.proofs.Changes.{sum_crc}
use Rattle.fr_damage.proofs.crcs.the_crc_of_a_sum.Goals as goal

pub returns : goal.returns
returns c = sum_crc
