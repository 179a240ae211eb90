use Rattle.std.specs.Prelude.{◌+◌, ◌-◌, vec_len}
use Rattle.fr_script.proofs.sayings.start.Given as goal

abbrev pub decreases-loop-starts : goal.decreases-loop-starts
decreases-loop-starts l = l.cycle + 1 - vec_len l.starts
