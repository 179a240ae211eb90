use Rattle.std.proofs.Common.{◌≡◌, take}
use Rattle.fr_sharp.specs.LossRuns.{some_listened}
use Rattle.fr_sharp.proofs.group_losses.some_listened.Given as goal

abbrev pub invariant-loop-place : goal.invariant-loop-place
invariant-loop-place l = l.found ≡ some_listened (take l.place l.nodes) l.script l.ago l.double
