use Rattle.std.proofs.Common.{◌≡◌, take}
use Rattle.fr_sharp.specs.SharpStatement.{has_arbitrary_in}
use Rattle.fr_sharp.proofs.arbitrary.some_arbitrary.Given as goal

abbrev pub invariant-loop-place : goal.invariant-loop-place
invariant-loop-place l = l.found ≡ has_arbitrary_in (take l.place l.nodes) l.script
