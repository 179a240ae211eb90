use Rattle.fr_precision.proofs.InstantLaws.{macroticks_lie_in_reach}
use Rattle.fr_precision.proofs.NearLemmas.{actions_lie_near, odd_lengths_follow}
use Rattle.fr_precision.proofs.nearness.nodes_lie_near.Goals as goal

pub returns-clause-odd : goal.returns-clause-odd
returns-clause-odd c = odd_lengths_follow

pub returns-clause-actions : goal.returns-clause-actions
returns-clause-actions c = actions_lie_near

pub returns-clause-macroticks : goal.returns-clause-macroticks
returns-clause-macroticks c = macroticks_lie_in_reach
