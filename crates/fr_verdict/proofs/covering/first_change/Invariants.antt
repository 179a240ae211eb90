use Rattle.std.proofs.Common.{◌≡◌, None}
use Rattle.fr_coverage.specs.First.{first_below}
use Rattle.fr_trace.specs.Cycles.{history_by}
use Rattle.fr_verdict.specs.FirstGap.{traced_change_gap}
use Rattle.fr_verdict.proofs.covering.first_change.Given as goal

-- no gap so far
abbrev pub invariant-loop-cycle : goal.invariant-loop-cycle
invariant-loop-cycle l = first_below (traced_change_gap l.params (history_by l.cycles) l.node) l.cycle ≡ None
