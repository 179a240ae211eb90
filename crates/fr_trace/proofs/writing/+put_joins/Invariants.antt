use Rattle.std.proofs.Common.{◌-◌, length}
use Rattle.fr_trace.proofs.writing.+put_joins.Given as goal

abbrev pub decreases-put_joins : goal.decreases-put_joins
decreases-put_joins g l = length l.nodes.now - l.place
