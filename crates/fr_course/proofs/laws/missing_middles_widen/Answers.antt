use Rattle.fr_course.proofs.MiddleLaws.{missing_middles_widen_lem}
use Rattle.fr_course.proofs.laws.missing_middles_widen.Goals as goal

pub returns : goal.returns
returns c = missing_middles_widen_lem
