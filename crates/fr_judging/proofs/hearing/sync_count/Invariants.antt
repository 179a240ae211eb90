use Rattle.std.proofs.Common.{◌≡◌, ◌≤◌, count_by, take}
use Rattle.fr_sightings.specs.Sure.{is_sync_as}
use Rattle.fr_judging.proofs.hearing.sync_count.Given as goal

-- those among the nodes so far
abbrev pub invariant-loop-place : goal.invariant-loop-place
invariant-loop-place l = record {
  value : l.count ≡ count_by (is_sync_as l.log l.arbitrary) (take l.place l.nodes);
  few : l.count ≤ l.place;
}
