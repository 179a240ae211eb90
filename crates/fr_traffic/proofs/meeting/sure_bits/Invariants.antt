use Rattle.std.proofs.Common.{◌≡◌, ◌<◌, ◌^◌, take, true}
use Rattle.fr_traffic.specs.Meeting.{node_bits, is_sure}
use Rattle.fr_traffic.specs.Traffic.{traffic_with}
use Rattle.fr_traffic.proofs.meeting.sure_bits.Given as goal

-- those of the nodes so far
abbrev pub invariant-loop-place : goal.invariant-loop-place
invariant-loop-place l = record {
  rate : l.asked.rate ≡ l.rate;
  surely : l.asked.surely ≡ true;
  double : l.asked.double ≡ l.fn.double;
  value : l.bits ≡ node_bits (is_sure l.rate (traffic_with l.nodes l.script) l.fn.double l.receiver) (take l.place l.nodes);
  small : l.bits < 2 ^ l.place;
}
