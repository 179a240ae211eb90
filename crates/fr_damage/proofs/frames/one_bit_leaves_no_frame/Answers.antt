use Rattle.fr_damage.proofs.Inverted.{one_in_header_code, one_no_frame, one_outside}
use Rattle.fr_damage.proofs.frames.one_bit_leaves_no_frame.Goals as goal

pub returns : goal.returns
returns c = record { none = one_no_frame; header = one_in_header_code; frame = one_outside }
