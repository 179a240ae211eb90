use Rattle.std.proofs.Common.{length, None}
use Rattle.fr_air.specs.Cells.{HaveCells}
use Rattle.fr_air.proofs.memory.give_all.Given as goal

-- the cells of the messages that are left are out, and no others
abbrev pub invariant-loop-message : goal.invariant-loop-message
invariant-loop-message l = HaveCells l.pool l.messages.items None

-- each turn gives one back
abbrev pub decreases-loop-message : goal.decreases-loop-message
decreases-loop-message l = length l.messages.items
