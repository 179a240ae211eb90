use Rattle.std.proofs.Common.{◌≡◌, ℕ, ◌<◌, ◌≤◌, true}
use Rattle.fr_bound.specs.Checks.{holds_of}
use Rattle.fr_bound.proofs.checking.join_checks.Given as goal

abbrev pub invariant-loop-number : goal.invariant-loop-number
invariant-loop-number l = (k : ℕ) → 6 ≤ k → k < l.number → holds_of k l.params ≡ true
