use Rattle.std.proofs.Common.{take, All}
use Rattle.fr_air.specs.Reaching.{ReachesAll}
use Rattle.fr_air.proofs.reach.all_reach.Given as goal

-- the senders so far reach all
abbrev pub invariant-loop-row : goal.invariant-loop-row
invariant-loop-row l = All (ReachesAll l.files l.cycle l.rows) (take l.row-index l.rows)
