use Rattle.std.proofs.Common.{◌≡◌, ◌≤◌, take}
use Rattle.fr_coverage.specs.Coverage.{count_of}
use Rattle.fr_coverage.proofs.gaps.count.Given as goal

abbrev pub invariant-loop-place : goal.invariant-loop-place
invariant-loop-place l = record {
  sum : l.sum ≡ count_of l.script l.arbitrary (take l.place l.nodes);
  few : l.sum ≤ l.place;
}
