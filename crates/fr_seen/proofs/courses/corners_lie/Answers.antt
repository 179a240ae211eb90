use Rattle.fr_seen.proofs.CornerLaws.{corners_lie_lem}
use Rattle.fr_seen.proofs.courses.corners_lie.Goals as goal

pub returns : goal.returns
returns c = corners_lie_lem
