use Rattle.fr_precision.proofs.InstantLaws.{actions_stay_near, macroticks_stay_near_lem}
use Rattle.fr_precision.proofs.instants.macroticks_stay_near.Goals as goal

pub returns-clause-near : goal.returns-clause-near
returns-clause-near c = macroticks_stay_near_lem

pub returns-clause-actions : goal.returns-clause-actions
returns-clause-actions c = actions_stay_near
