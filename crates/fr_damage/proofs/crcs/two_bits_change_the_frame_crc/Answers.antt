use Rattle.fr_damage.proofs.Changes.{two_bits, two_bits_alike}
use Rattle.fr_damage.proofs.Periods.{frame_ends, frame_stays_away, frame_comes_back, frame_some}
use Rattle.fr_damage.proofs.crcs.two_bits_change_the_frame_crc.Goals as goal

pub returns : goal.returns
returns c = record {
  seen = λ start message first second place distance. two_bits _ start message first second 4093 place distance frame_ends frame_stays_away;
  unseen = λ start message first second place. two_bits_alike _ start message first second place 4093 frame_some frame_comes_back;
}
