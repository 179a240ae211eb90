use Rattle.fr_damage.proofs.Unstored.{flips_in_header, flips_no_frame, flips_outside}
use Rattle.fr_damage.proofs.flips.a_twice_flipped_frame_is_no_frame.Goals as goal

pub returns : goal.returns
returns c = record { none = flips_no_frame; header = flips_in_header; frame = flips_outside }
