use Rattle.std.proofs.Common.{◌≡◌, ◌≤◌, ◌&&◌, count_by, take}
use Rattle.fr_traffic.specs.Traffic.{has_value, is_correct_sender, traffic_with}
use Rattle.fr_traffic.proofs.traffic.counted.Given as goal

-- those among the nodes so far
abbrev pub invariant-loop-place : goal.invariant-loop-place
invariant-loop-place l = record {
  value : l.count ≡ count_by
      (λ a. is_correct_sender (traffic_with l.nodes l.script) a && has_value l.asked.rate l.asked.surely (traffic_with l.nodes l.script) l.asked.double l.receiver a)
      (take l.place l.nodes);
  few : l.count ≤ l.place;
}
