use Rattle.std.specs.Prelude.{◌-◌, length}
use Rattle.fr_script.proofs.NextSaid.{NoneLater}
use Rattle.fr_script.proofs.sayings.next_from.Given as goal

-- no row before the place is a later one of the pair
abbrev pub invariant-loop-place : goal.invariant-loop-place
invariant-loop-place l = NoneLater l.rows l.place l.first

abbrev pub decreases-loop-place : goal.decreases-loop-place
decreases-loop-place l = length l.rows - l.place
