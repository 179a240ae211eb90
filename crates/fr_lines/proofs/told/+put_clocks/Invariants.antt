use Rattle.std.proofs.Common.{length}
use Rattle.fr_lines.proofs.told.+put_clocks.Given as goal

abbrev pub decreases-put_clocks : goal.decreases-put_clocks
decreases-put_clocks g l = length l.clocks.now
