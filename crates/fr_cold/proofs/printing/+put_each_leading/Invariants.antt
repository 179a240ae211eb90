use Rattle.std.proofs.Common.{◌-◌}
use Rattle.fr_cold.proofs.printing.+put_each_leading.Given as goal

abbrev pub decreases-put_each_leading : goal.decreases-put_each_leading
decreases-put_each_leading g l = 65 - l.number
