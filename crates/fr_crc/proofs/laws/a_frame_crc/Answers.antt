use Rattle.fr_crc.proofs.Existence.{a_frame_crc}
use Rattle.fr_crc.proofs.laws.a_frame_crc.Goals as goal

pub returns : goal.returns
returns c = a_frame_crc
