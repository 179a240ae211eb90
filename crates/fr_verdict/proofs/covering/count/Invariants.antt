use Rattle.std.proofs.Common.{◌≡◌, ◌≤◌, take}
use Rattle.fr_verdict.specs.Counted.{count_in}
use Rattle.fr_verdict.proofs.covering.count.Given as goal

abbrev pub invariant-loop-place : goal.invariant-loop-place
invariant-loop-place l = record {
  sum : l.sum ≡ count_in l.trace l.named (take l.place l.nodes);
  few : l.sum ≤ l.place;
}
