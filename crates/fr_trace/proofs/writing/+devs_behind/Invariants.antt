use Rattle.std.proofs.Common.{length}
use Rattle.fr_trace.proofs.writing.+devs_behind.Given as goal

abbrev pub decreases-devs_behind : goal.decreases-devs_behind
decreases-devs_behind l = length l.devs.now
