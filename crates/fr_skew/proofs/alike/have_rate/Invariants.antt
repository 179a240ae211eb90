use Rattle.std.proofs.Common.{take, All}
use Rattle.fr_skew.specs.Alike.{HasRate}
use Rattle.fr_skew.proofs.alike.have_rate.Given as goal

-- the rows so far have this rate
abbrev pub invariant-loop-row : goal.invariant-loop-row
invariant-loop-row l = All (HasRate l.rate) (take l.row-index l.rows)
