use Rattle.std.proofs.Common.{◌≡◌, take, All}
use Rattle.fr_air.specs.Lines.{IsSpread, LiesInSight}
use Rattle.fr_air.proofs.lines.spread_of.Given as goal

-- the rows so far lie in the spread
abbrev pub invariant-loop-row : goal.invariant-loop-row
invariant-loop-row l = record {
  base : l.spread.base ≡ l.base;
  spread : IsSpread l.spread;
  rows : All (LiesInSight l.params l.spread) (take l.row-index l.rows);
}
