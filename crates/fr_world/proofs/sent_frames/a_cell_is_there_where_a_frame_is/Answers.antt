use Rattle.std.specs.Prelude.{option_map}
use Rattle.std.proofs.Common.{◌≡◌, ◌↔◌, None, find}
use Rattle.fr_air.specs.Memory.{Held, cell_of, frame_in_cell, is_of_place, place_of_slot}
use Rattle.fr_world.specs.World.{memory_of}
use Rattle.fr_world.proofs.Both.{both}
use Rattle.fr_world.proofs.sent_frames.a_cell_is_there_where_a_frame_is.Goals as goal

pub returns : goal.returns
returns c = λ w slot channel. both (place_of_slot slot channel) (memory_of w).held
