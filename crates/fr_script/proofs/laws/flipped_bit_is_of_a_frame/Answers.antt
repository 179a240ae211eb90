use Rattle.fr_script.proofs.Outcomes.{fits-flip}
use Rattle.fr_script.proofs.laws.flipped_bit_is_of_a_frame.Goals as goal

pub returns : goal.returns
returns c = λ p s fits cycle sender receiver ch bit flips. fits-flip p s cycle sender receiver ch bit fits flips
