use Rattle.fr_damage.proofs.Few.{few_in_header_code, few_no_frame, few_outside}
use Rattle.fr_damage.proofs.frames.three_bits_leave_no_frame.Goals as goal

pub returns : goal.returns
returns c = record { none = few_no_frame; header = few_in_header_code; frame = few_outside }
