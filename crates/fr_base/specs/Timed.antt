-- The numbers of a row with which instants can be computed.
use Rattle.std.specs.Prelude.{ℤ, pos}
use Rattle.fr_base.specs.Within.{IsBetween}
use Rattle.fr_base.specs.declared.node_row.NodeRow.{NodeRow}

-- a microtick lasts from a half to one and a half of its nominal length
abbrev pub IsLength : ℤ → Type 0
IsLength length = IsBetween (pos 500_000) (pos 1_500_000) length

-- no start of a run of 200,000 cycles is as large as this one, also of a node that began to follow behind an arrival of up to
-- 900,000,000,000,000,000 ticks
pub record IsTimed (row : NodeRow) : Type 0 where
  pub start : IsBetween (pos 0) (pos 1_110_000_000_000_000_000) row.start
  pub length : IsLength row.length
