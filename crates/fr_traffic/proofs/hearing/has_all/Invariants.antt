use Rattle.std.proofs.Common.{◌≡◌, ◌||◌, not, true, take}
use Rattle.std.specs.List.{list_all}
use Rattle.fr_traffic.specs.Traffic.{has_value, may_send, traffic_with}
use Rattle.fr_traffic.proofs.hearing.has_all.Given as goal

-- each so far
abbrev pub invariant-loop-place : goal.invariant-loop-place
invariant-loop-place l = record {
  rate : l.asked.rate ≡ l.rate;
  surely : l.asked.surely ≡ true;
  double : l.asked.double ≡ l.fn.double;
  each : list_all
      (λ a. not (may_send (traffic_with l.nodes l.script) l.fn.double a) || has_value l.rate true (traffic_with l.nodes l.script) l.fn.double l.receiver a)
      (take l.place l.nodes)
      ≡ true;
}
