use Rattle.std.proofs.Common.{◌≡◌, ℕ, ◌<◌, ◌≤◌, true}
use Rattle.fr_bound.specs.SharpChecks.{sharp_holds_of}
use Rattle.fr_bound.proofs.judging.checks_hold.Given as goal

-- those before it hold
abbrev pub invariant-loop-number : goal.invariant-loop-number
invariant-loop-number l = (k : ℕ) → 2 ≤ k → k < l.number → sharp_holds_of k l.flutter l.reach l.params ≡ true
