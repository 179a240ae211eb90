use Rattle.std.proofs.Common.{take, All}
use Rattle.fr_air.specs.Reaching.{Reaches}
use Rattle.fr_air.proofs.reach.reaches_each.Given as goal

-- it reaches the nodes so far
abbrev pub invariant-loop-row : goal.invariant-loop-row
invariant-loop-row l = All (Reaches l.files l.cycle l.sender l.channel) (take l.row-index l.rows)
