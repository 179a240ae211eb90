use Rattle.std.proofs.Common.{◌≡◌, ◌<◌, ℕ, None}
use Rattle.fr_verdict.specs.Doubles.{double_gap}
use Rattle.fr_verdict.proofs.covering.is_linked.Given as goal

-- no link is broken so far
abbrev pub invariant-loop-double : goal.invariant-loop-double
invariant-loop-double l = (d : ℕ) → d < l.double → double_gap l.params l.trace l.synced d ≡ None
