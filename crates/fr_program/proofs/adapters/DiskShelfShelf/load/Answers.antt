use Rattle.std.proofs.Common.{refl}
use Rattle.fr_program.proofs.adapters.DiskShelfShelf.load.Goals as goal

pub returns-in-Ok-clause-later : goal.returns-in-Ok-clause-later
returns-in-Ok-clause-later g c = record { held_stays = λ file. refl; never_fall = λ file. c.load_from.ensures.never_falls; one_load = tt }

pub returns-in-Err-clause-later : goal.returns-in-Err-clause-later
returns-in-Err-clause-later g c = record { held_stays = λ file. refl; never_fall = λ file. c.unopened.ensures.never_falls; one_load = tt }
