use Rattle.fr_damage.proofs.Kept.{body_bit, covered_bit, frame_crc_bit, header_crc_bit}
use Rattle.fr_damage.proofs.frames.one_bit_leaves_its_crc.Goals as goal

pub returns : goal.returns
returns c = record { covered = covered_bit; header_crc = header_crc_bit; body = body_bit; frame_crc = frame_crc_bit }
