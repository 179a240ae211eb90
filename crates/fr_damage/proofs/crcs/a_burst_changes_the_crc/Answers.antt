use Rattle.fr_damage.proofs.Changes.{a_burst, wider_burst}
use Rattle.fr_damage.proofs.Periods.{header_ends, frame_ends}
use Rattle.fr_damage.proofs.crcs.a_burst_changes_the_crc.Goals as goal

pub returns : goal.returns
returns c = record { any = a_burst; unseen = wider_burst; header = header_ends; frame = frame_ends }
