use Rattle.std.proofs.Common.{◌≡◌}
use Rattle.fr_series.specs.Scale.{first_above}
use Rattle.fr_series.proofs.spread.searched.Given as goal

-- the first place above the limit up to this macrotick
abbrev pub invariant-loop-macrotick : goal.invariant-loop-macrotick
invariant-loop-macrotick l = l.above ≡ first_above l.scale.grid l.cycle l.rows l.scale.precision l.macrotick
