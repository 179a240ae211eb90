use Rattle.fr_precision.proofs.EndLemmas.{corrected_end_is_near, ends_come_near_lem}
use Rattle.fr_precision.proofs.ends.ends_come_near.Goals as goal

pub returns-clause-two : goal.returns-clause-two
returns-clause-two c = ends_come_near_lem

pub returns-clause-one : goal.returns-clause-one
returns-clause-one c = corrected_end_is_near
