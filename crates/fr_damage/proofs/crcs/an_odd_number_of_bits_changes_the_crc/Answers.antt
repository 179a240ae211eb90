use Rattle.fr_damage.proofs.Changes.{odd_bits}
use Rattle.fr_damage.proofs.Periods.{header_odd, frame_odd}
use Rattle.fr_damage.proofs.crcs.an_odd_number_of_bits_changes_the_crc.Goals as goal

pub returns : goal.returns
returns c = record { any = odd_bits; header = header_odd; frame = frame_odd }
