use Rattle.fr_damage.proofs.Crossed.{crossed_fault, crossed_no_frame}
use Rattle.fr_damage.proofs.frames.a_frame_is_none_on_the_other_channel.Goals as goal

pub returns : goal.returns
returns c = record { none = crossed_no_frame; fault = crossed_fault }
