use Rattle.std.proofs.Common.{◌≡◌, true, take}
use Rattle.std.specs.List.{list_all}
use Rattle.fr_traffic.specs.Traffic.{bears, traffic_in}
use Rattle.fr_traffic.proofs.bearing.all_bear_in.Given as goal

-- each so far
abbrev pub invariant-loop-place : goal.invariant-loop-place
invariant-loop-place l = list_all (bears l.params (traffic_in l.params l.script) l.double) (take l.place l.nodes) ≡ true
