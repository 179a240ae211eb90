use Rattle.fr_damage.proofs.flips.a_flipped_frame_is_no_frame.Goals as goal
use Rattle.fr_damage.proofs.Unstored.{flip_in_header, flip_no_frame, flip_outside}

pub returns : goal.returns
returns c = record { none = flip_no_frame; header = flip_in_header; frame = flip_outside }
