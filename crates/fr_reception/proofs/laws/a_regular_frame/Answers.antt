use Rattle.fr_reception.proofs.Frames.{length-regular_frame, regular_is_frame, regular_is_of_bytes}
use Rattle.fr_reception.proofs.laws.a_regular_frame.Goals as goal

pub returns : goal.returns
returns c = record { frame = regular_is_frame; bytes = regular_is_of_bytes; long = length-regular_frame }
