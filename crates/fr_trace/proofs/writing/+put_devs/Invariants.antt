use Rattle.std.proofs.Common.{length}
use Rattle.fr_trace.proofs.writing.+put_devs.Given as goal

abbrev pub decreases-put_devs : goal.decreases-put_devs
decreases-put_devs g l = length l.devs.now
