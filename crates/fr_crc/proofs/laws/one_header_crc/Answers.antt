use Rattle.fr_crc.proofs.Unique.{header_crc_is_one}
use Rattle.fr_crc.proofs.laws.one_header_crc.Goals as goal

pub returns : goal.returns
returns c = header_crc_is_one
