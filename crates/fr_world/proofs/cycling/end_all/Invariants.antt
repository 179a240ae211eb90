use Rattle.std.proofs.Common.{◌≡◌, ◌++◌, map, take, drop}
use Rattle.std.specs.Prelude.{All}
use Rattle.fr_node.specs.Cycle.{ended, ended_row_of_node}
use Rattle.fr_node.specs.Fits.{NodeFits}
use Rattle.fr_time.specs.Placed.{IsPlacedRow}
use Rattle.fr_time.specs.Position.{grid_for}
use Rattle.fr_world.proofs.cycling.end_all.Given as goal

-- the cycle of the nodes so far has ended and they are listed, and the others are as they were
abbrev pub invariant-loop-node : goal.invariant-loop-node
invariant-loop-node l =
    (l.nodes ≡ map (ended l.files.params) (take l.node-index l.initial.nodes) ++ drop l.node-index l.initial.nodes)
    × All (NodeFits l.files.params) l.nodes
    × (l.rows ≡ map (ended_row_of_node l.files.params) (take l.node-index l.initial.nodes))
    × All (IsPlacedRow (grid_for l.files.params)) l.rows
