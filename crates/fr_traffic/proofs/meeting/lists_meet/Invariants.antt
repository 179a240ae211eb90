use Rattle.std.proofs.Common.{◌≡◌, true, length, map, take}
use Rattle.std.specs.List.{list_all}
use Rattle.fr_traffic.specs.Meeting.{has_own, receiver_of}
use Rattle.fr_traffic.specs.Traffic.{traffic_with}
use Rattle.fr_traffic.proofs.meeting.lists_meet.Given as goal

-- those of the nodes so far, each of which has a value
abbrev pub invariant-loop-place : goal.invariant-loop-place
invariant-loop-place l = record {
  value : l.receivers ≡ map (receiver_of l.rate (traffic_with l.nodes l.script) l.double) (take l.place l.nodes);
  long : length l.receivers ≡ l.place;
  own : list_all (has_own l.rate (traffic_with l.nodes l.script) l.double) (take l.place l.nodes) ≡ true;
}
