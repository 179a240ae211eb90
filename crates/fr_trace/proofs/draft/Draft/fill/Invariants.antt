use Rattle.std.proofs.Common.{◌-◌, length}
use Rattle.fr_trace.specs.Draft.{HasFilled}
use Rattle.fr_trace.proofs.draft.Draft.fill.Given as goal

-- the cycles so far are ended as they stand
abbrev pub invariant-loop-self : goal.invariant-loop-self
invariant-loop-self l = HasFilled l.fn.self l.self l.cycles

abbrev pub decreases-loop-self : goal.decreases-loop-self
decreases-loop-self l = l.cycles - length l.self.cycles.items
