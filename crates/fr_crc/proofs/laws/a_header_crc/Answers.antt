use Rattle.fr_crc.proofs.Existence.{a_header_crc}
use Rattle.fr_crc.proofs.laws.a_header_crc.Goals as goal

pub returns : goal.returns
returns c = a_header_crc
