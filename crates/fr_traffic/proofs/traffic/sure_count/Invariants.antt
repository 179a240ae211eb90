use Rattle.std.proofs.Common.{◌≡◌, ◌≤◌, ◌&&◌, count_by, take, true}
use Rattle.fr_traffic.specs.Traffic.{has_value, is_correct_sender, stays, traffic_with}
use Rattle.fr_traffic.proofs.traffic.sure_count.Given as goal

-- those among the nodes so far
abbrev pub invariant-loop-place : goal.invariant-loop-place
invariant-loop-place l = record {
  rate : l.asked.rate ≡ l.rate;
  surely : l.asked.surely ≡ true;
  double : l.asked.double ≡ l.fn.double;
  value : l.count ≡ count_by
      (λ a. is_correct_sender (traffic_with l.nodes l.script) a
      && (stays (traffic_with l.nodes l.script) a && has_value l.rate true (traffic_with l.nodes l.script) l.fn.double l.receiver a))
      (take l.place l.nodes);
  few : l.count ≤ l.place;
}
