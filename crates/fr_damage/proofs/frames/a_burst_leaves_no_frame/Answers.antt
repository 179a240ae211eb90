use Rattle.fr_damage.proofs.Bursts.{burst_in_header_code, burst_no_frame, burst_outside}
use Rattle.fr_damage.proofs.frames.a_burst_leaves_no_frame.Goals as goal

pub returns : goal.returns
returns c = record { none = burst_no_frame; header = burst_in_header_code; frame = burst_outside }
