use Rattle.std.proofs.Common.{◌≡◌, ◌≤◌, length, take}
use Rattle.std.specs.Prelude.{filter}
use Rattle.fr_script.specs.View.{is_arbitrary}
use Rattle.fr_lines.proofs.counting.arbitrary_count.Given as goal

-- those among the nodes before this place
abbrev pub invariant-loop-place : goal.invariant-loop-place
invariant-loop-place l = record {
  count : l.count ≡ length (filter (λ node. is_arbitrary l.script node.id) (take l.place l.nodes));
  few : l.count ≤ l.place;
}
