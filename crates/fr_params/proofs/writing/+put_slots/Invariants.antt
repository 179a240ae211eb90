use Rattle.std.proofs.Common.{◌-◌, length}
use Rattle.fr_params.proofs.writing.+put_slots.Given as goal

abbrev pub decreases-put_slots : goal.decreases-put_slots
decreases-put_slots g l = length l.slots.now - l.place
