use Rattle.std.proofs.Common.{◌≡◌, take}
use Rattle.std.specs.List.{list_all}
use Rattle.fr_traffic.specs.Reaching.{reaches_each}
use Rattle.fr_traffic.proofs.heard.all_reach.Given as goal

abbrev pub invariant-loop-place : goal.invariant-loop-place
invariant-loop-place l = l.all ≡ list_all (reaches_each l.nodes l.script l.when) (take l.place l.nodes)
