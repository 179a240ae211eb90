use Rattle.fr_seen.proofs.CompletenessSenders.{corners_are_narrow_lem}
use Rattle.fr_seen.proofs.completeness.corners_are_narrow.Goals as goal

pub returns : goal.returns
returns c = corners_are_narrow_lem
