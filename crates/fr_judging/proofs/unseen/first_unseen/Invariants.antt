use Rattle.std.proofs.Common.{◌≡◌, None, take}
use Rattle.std.specs.List.{fold}
use Rattle.fr_judging.specs.Obstacles.{or_unseen}
use Rattle.fr_judging.proofs.unseen.first_unseen.Given as goal

-- that of the nodes so far
abbrev pub invariant-loop-place : goal.invariant-loop-place
invariant-loop-place l = l.first ≡ fold (or_unseen l.log l.here l.double) None (take l.place l.params.nodes)
