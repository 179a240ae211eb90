use Rattle.fr_damage.proofs.Changes.{two_bits, two_bits_alike}
use Rattle.fr_damage.proofs.Periods.{header_ends, header_stays_away, header_comes_back, header_some}
use Rattle.fr_damage.proofs.crcs.two_bits_change_the_header_crc.Goals as goal

pub returns : goal.returns
returns c = record {
  seen = λ start message first second place distance. two_bits _ start message first second 30 place distance header_ends header_stays_away;
  unseen = λ start message first second place. two_bits_alike _ start message first second place 30 header_some header_comes_back;
}
