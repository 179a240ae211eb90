-- The rows of whose cycles the instants can be computed.
use Rattle.fr_base.specs.Timed.{IsTimed}
use Rattle.fr_base.specs.declared.node_row.NodeRow.{NodeRow}
use Rattle.fr_time.specs.Position.{IsPlaceable}
use Rattle.fr_time.specs.declared.grid.Grid.{Grid}

-- the terms of a row can be placed on a grid, and its start and its microtick are in their ranges
pub record IsPlacedRow (grid : Grid) (row : NodeRow) : Type 0 where
  pub placeable : IsPlaceable grid row.rate row.offset
  pub timed : IsTimed row
