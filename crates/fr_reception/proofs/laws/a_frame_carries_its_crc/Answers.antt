use Rattle.fr_reception.proofs.Carried.{carried_is}
use Rattle.fr_reception.proofs.laws.a_frame_carries_its_crc.Goals as goal

pub returns : goal.returns
returns c = carried_is
