use Rattle.std.proofs.Common.{◌≡◌, None, take}
use Rattle.std.specs.Prelude.{IfSome}
use Rattle.std.specs.List.{fold}
use Rattle.fr_skew.specs.Extents.{with_start, IsExtent}
use Rattle.fr_skew.proofs.spread.starts_extent.Given as goal

-- the extent of the rows so far
abbrev pub invariant-loop-row : goal.invariant-loop-row
invariant-loop-row l = (l.extent ≡ fold with_start None (take l.row-index l.rows)) × IfSome l.extent IsExtent
