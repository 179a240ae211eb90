use Rattle.fr_time.proofs.SoleSenders.{further_slot_sender, key_slot_sender}
use Rattle.fr_time.proofs.laws.each_slot_has_its_sender.Goals as goal

pub returns : goal.returns
returns c p cycle sane = record {
  key = λ node slot among own. key_slot_sender p slot cycle node sane among own;
  further = λ spec among. further_slot_sender p cycle spec sane among;
}
