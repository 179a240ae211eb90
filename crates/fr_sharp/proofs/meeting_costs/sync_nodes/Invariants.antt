use Rattle.std.proofs.Common.{◌≡◌, ◌≤◌, count_by, take}
use Rattle.fr_coverage.specs.Links.{is_sync}
use Rattle.fr_sharp.proofs.meeting_costs.sync_nodes.Given as goal

-- those among the nodes so far
abbrev pub invariant-loop-place : goal.invariant-loop-place
invariant-loop-place l = record {
  value : l.count ≡ count_by is_sync (take l.place l.nodes);
  few : l.count ≤ l.place;
}
