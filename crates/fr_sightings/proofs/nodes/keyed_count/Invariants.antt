use Rattle.std.proofs.Common.{◌≡◌, ◌≤◌, count_by, is_some, take}
use Rattle.fr_sightings.proofs.nodes.keyed_count.Given as goal

-- those among the nodes so far
abbrev pub invariant-loop-place : goal.invariant-loop-place
invariant-loop-place l = record {
  value : l.count ≡ count_by (λ node. is_some node.key) (take l.place l.params.nodes);
  few : l.count ≤ l.place;
}
