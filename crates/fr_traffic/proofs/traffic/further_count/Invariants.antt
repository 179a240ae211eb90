use Rattle.std.proofs.Common.{◌≡◌, ◌≤◌, ◌&&◌, count_by, take}
use Rattle.fr_coverage.specs.Links.{is_sync}
use Rattle.fr_script.specs.View.{is_arbitrary}
use Rattle.fr_traffic.specs.Traffic.{may_be_said, traffic_with}
use Rattle.fr_traffic.proofs.traffic.further_count.Given as goal

-- those among the nodes so far
abbrev pub invariant-loop-place : goal.invariant-loop-place
invariant-loop-place l = record {
  value : l.count ≡ count_by
      (λ a. (is_sync a && is_arbitrary l.script a.id) && may_be_said l.rate (traffic_with l.nodes l.script) l.double l.receiver a)
      (take l.place l.nodes);
  few : l.count ≤ l.place;
}
