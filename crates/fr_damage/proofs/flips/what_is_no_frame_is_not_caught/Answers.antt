use Rattle.fr_damage.proofs.Unstored.{catches_nothing, few_not_caught}
use Rattle.fr_damage.proofs.flips.what_is_no_frame_is_not_caught.Goals as goal

pub returns : goal.returns
returns c = record { none = catches_nothing; bits = few_not_caught }
