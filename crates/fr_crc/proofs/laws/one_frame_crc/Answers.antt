use Rattle.fr_crc.proofs.Unique.{frame_crc_is_one}
use Rattle.fr_crc.proofs.laws.one_frame_crc.Goals as goal

pub returns : goal.returns
returns c = frame_crc_is_one
