use Rattle.std.proofs.Common.{◌≡◌, ◌&&◌, false, take}
use Rattle.std.specs.List.{list_any}
use Rattle.fr_coverage.specs.Links.{is_sync}
use Rattle.fr_traffic.specs.Traffic.{may_reach, traffic_with}
use Rattle.fr_traffic.proofs.bearing.is_reached.Given as goal

-- none so far
abbrev pub invariant-loop-place : goal.invariant-loop-place
invariant-loop-place l =
    list_any (λ a. is_sync a && may_reach l.rate (traffic_with l.nodes l.script) l.double l.receiver a) (take l.place l.nodes) ≡ false
