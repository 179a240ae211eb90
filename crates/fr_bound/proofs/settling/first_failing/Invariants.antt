use Rattle.std.proofs.Common.{◌≡◌, ℕ, ◌<◌, ◌≤◌, true}
use Rattle.fr_bound.specs.Settling.{settle_holds_of}
use Rattle.fr_bound.proofs.settling.first_failing.Given as goal

abbrev pub invariant-loop-number : goal.invariant-loop-number
invariant-loop-number l = (k : ℕ) → 1 ≤ k → k < l.number → settle_holds_of k l.peak l.params ≡ true
