use Rattle.std.proofs.Common.{◌≡◌, None}
use Rattle.fr_coverage.specs.First.{first_below}
use Rattle.fr_verdict.specs.FirstGap.{traced_link_gap}
use Rattle.fr_verdict.proofs.covering.first_link.Given as goal

-- no gap so far
abbrev pub invariant-loop-double : goal.invariant-loop-double
invariant-loop-double l = first_below (traced_link_gap l.trace l.synced l.sender l.receiver) l.double ≡ None
