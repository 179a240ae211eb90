use Rattle.fr_answer.proofs.FrameDecided.{one_line}
use Rattle.fr_answer.proofs.frame_laws.file_decides_the_line.Goals as goal

pub returns : goal.returns
returns c = one_line c.one_reading.ensures c.one_header_crc.ensures c.one_frame_crc.ensures
