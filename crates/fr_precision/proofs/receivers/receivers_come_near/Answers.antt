use Rattle.fr_precision.proofs.ReceiverLaws.{receivers_come_near, receivers_draw_near}
use Rattle.fr_precision.proofs.receivers.receivers_come_near.Goals as goal

pub returns-clause-draw : goal.returns-clause-draw
returns-clause-draw c = receivers_draw_near

pub returns-clause-near : goal.returns-clause-near
returns-clause-near c = receivers_come_near
