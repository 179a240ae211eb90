use Rattle.fr_crc.proofs.Existence.{a_remainder}
use Rattle.fr_crc.proofs.laws.a_remainder.Goals as goal

pub returns : goal.returns
returns c = a_remainder
