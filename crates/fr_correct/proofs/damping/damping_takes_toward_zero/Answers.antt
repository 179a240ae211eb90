use Rattle.fr_correct.proofs.Damped.{damped-IsTakenToward, damped_once}
use Rattle.fr_correct.proofs.damping.damping_takes_toward_zero.Goals as goal

pub returns-clause-takes : goal.returns-clause-takes
returns-clause-takes c = damped-IsTakenToward

pub returns-clause-once : goal.returns-clause-once
returns-clause-once c = damped_once
