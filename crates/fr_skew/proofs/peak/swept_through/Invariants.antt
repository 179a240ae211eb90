use Rattle.std.proofs.Common.{◌≡◌}
use Rattle.fr_skew.specs.Sweep.{greatest_within}
use Rattle.fr_skew.proofs.peak.swept_through.Given as goal

-- the greatest skew up to this macrotick
abbrev pub invariant-loop-macrotick : goal.invariant-loop-macrotick
invariant-loop-macrotick l = l.peak ≡ greatest_within l.grid l.cycle l.rows l.fn.before l.macrotick
