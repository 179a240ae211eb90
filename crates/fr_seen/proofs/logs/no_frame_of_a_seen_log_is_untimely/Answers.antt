use Rattle.fr_seen.proofs.SightingLaws.{no_frame_is_untimely}
use Rattle.fr_seen.proofs.logs.no_frame_of_a_seen_log_is_untimely.Goals as goal

pub returns : goal.returns
returns c = no_frame_is_untimely
