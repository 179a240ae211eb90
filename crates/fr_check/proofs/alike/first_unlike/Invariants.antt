use Rattle.std.proofs.Common.{◌≡◌, None}
use Rattle.fr_coverage.specs.First.{first_below}
use Rattle.fr_verdict.specs.Alike.{unlike_at}
use Rattle.fr_check.proofs.alike.first_unlike.Given as goal

-- none so far
abbrev pub invariant-loop-double : goal.invariant-loop-double
invariant-loop-double l = first_below (unlike_at l.params l.trace l.from) l.double ≡ None
