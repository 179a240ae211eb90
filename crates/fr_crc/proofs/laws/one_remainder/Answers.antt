use Rattle.fr_crc.proofs.Unique.{remainder_is_one}
use Rattle.fr_crc.proofs.laws.one_remainder.Goals as goal

pub returns : goal.returns
returns c = remainder_is_one
