use Rattle.fr_damage.proofs.Unstored.{flip_damaged_frame, flip_damaged_header, flip_not_found, flip_not_stored}
use Rattle.fr_damage.proofs.flips.a_flipped_frame_is_ignored.Goals as goal

pub returns : goal.returns
returns c = record { unstored = flip_not_stored; function = flip_not_found; header = flip_damaged_header; frame = flip_damaged_frame }
