use Rattle.fr_world.proofs.Sent.{last-sent, never-sent}
use Rattle.fr_world.specs.World.{setting_after}
use Rattle.fr_world.proofs.sent_frames.a_cell_holds_the_last_frame_sent.Goals as goal

pub returns : goal.returns
returns c = record { last = last-sent; never = never-sent; world = λ w slot channel from to. last-sent (setting_after w) w.cycles slot channel from to }
