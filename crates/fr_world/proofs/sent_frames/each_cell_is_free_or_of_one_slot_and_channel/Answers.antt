use Rattle.fr_world.proofs.SentCells.{free-or-one}
use Rattle.fr_world.proofs.sent_frames.each_cell_is_free_or_of_one_slot_and_channel.Goals as goal

pub returns : goal.returns
returns c = free-or-one
