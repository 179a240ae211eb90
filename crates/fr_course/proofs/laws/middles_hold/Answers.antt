use Rattle.fr_course.proofs.MiddleLaws.{middles_hold_lem}
use Rattle.fr_course.proofs.laws.middles_hold.Goals as goal

pub returns : goal.returns
returns c = middles_hold_lem
