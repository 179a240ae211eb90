use Rattle.std.proofs.Common.{◌≡◌, ℕ, ◌<◌, ◌≤◌, true}
use Rattle.fr_promise.specs.SharpWay.{way_holds_of}
use Rattle.fr_promise.proofs.way.first_failing.Given as goal

-- those before it hold
abbrev pub invariant-loop-number : goal.invariant-loop-number
invariant-loop-number l = (k : ℕ) → 1 ≤ k → k < l.number → way_holds_of k l.flutter l.doubles l.reach l.params ≡ true
