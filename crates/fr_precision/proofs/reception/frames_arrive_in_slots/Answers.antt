use Rattle.fr_precision.proofs.ReceptionLaws.{arrives_in_slot, room_checks_suffice}
use Rattle.fr_precision.proofs.reception.frames_arrive_in_slots.Goals as goal

pub returns-clause-arrives : goal.returns-clause-arrives
returns-clause-arrives c = arrives_in_slot

pub returns-clause-checks : goal.returns-clause-checks
returns-clause-checks c = room_checks_suffice
