use Rattle.std.proofs.Common.{◌≡◌, take}
use Rattle.fr_traffic.specs.Reaching.{reaches_each}
use Rattle.fr_traffic.proofs.heard.reaches_each.Given as goal

abbrev pub invariant-loop-place : goal.invariant-loop-place
invariant-loop-place l = l.all ≡ reaches_each (take l.place l.nodes) l.script l.when l.sender
