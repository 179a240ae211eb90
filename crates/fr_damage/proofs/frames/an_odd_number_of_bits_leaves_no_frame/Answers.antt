use Rattle.fr_damage.proofs.Inverted.{odd_in_header_code, odd_no_frame, odd_outside}
use Rattle.fr_damage.proofs.frames.an_odd_number_of_bits_leaves_no_frame.Goals as goal

pub returns : goal.returns
returns c = record { none = odd_no_frame; header = odd_in_header_code; frame = odd_outside }
