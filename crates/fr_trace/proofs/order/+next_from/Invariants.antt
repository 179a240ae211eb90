use Rattle.std.proofs.Common.{◌-◌, length}
use Rattle.fr_trace.proofs.order.+next_from.Given as goal

abbrev pub decreases-next_from : goal.decreases-next_from
decreases-next_from l = length l.nodes.now - l.place
