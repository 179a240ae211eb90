use Rattle.fr_midpoint.proofs.Agreement.{one_receiver_lem, two_receivers_lem}
use Rattle.fr_midpoint.proofs.receivers.receivers_agree.Goals as goal

pub returns-clause-two : goal.returns-clause-two
returns-clause-two c = two_receivers_lem

pub returns-clause-one : goal.returns-clause-one
returns-clause-one c = one_receiver_lem
