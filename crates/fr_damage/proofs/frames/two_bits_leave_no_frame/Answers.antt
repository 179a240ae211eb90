use Rattle.fr_damage.proofs.Inverted.{two_in_header_code, two_no_frame, two_outside}
use Rattle.fr_damage.proofs.frames.two_bits_leave_no_frame.Goals as goal

pub returns : goal.returns
returns c = record { none = two_no_frame; header = two_in_header_code; frame = two_outside }
