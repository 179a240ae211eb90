use Rattle.std.proofs.Common.{◌≡◌, ◌≤◌, length, take}
use Rattle.std.specs.Option.{is_some}
use Rattle.std.specs.Prelude.{filter}
use Rattle.fr_lines.proofs.counting.keyed_count.Given as goal

-- those among the nodes before this place
abbrev pub invariant-loop-place : goal.invariant-loop-place
invariant-loop-place l = record {
  count : l.count ≡ length (filter (λ node. is_some node.key) (take l.place l.nodes));
  few : l.count ≤ l.place;
}
