use Rattle.std.proofs.Common.{◌≡◌, ℕ, ◌<◌, ◌≤◌, true}
use Rattle.fr_promise.specs.SharpJoining.{sharp_join_holds_of}
use Rattle.fr_promise.proofs.join_checking.sharp_join_checks.Given as goal

-- those before it hold
abbrev pub invariant-loop-number : goal.invariant-loop-number
invariant-loop-number l = (k : ℕ) → 6 ≤ k → k < l.number → sharp_join_holds_of k l.beside l.flutter l.params ≡ true
