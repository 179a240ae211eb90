use Rattle.std.proofs.Common.{◌≡◌, map, take}
use Rattle.std.specs.Prelude.{All}
use Rattle.fr_node.specs.View.{node_row_of}
use Rattle.fr_air.specs.Sending.{IsEarlyRow}
use Rattle.fr_world.proofs.cycling.list_rows.Given as goal

-- the rows of the nodes so far are listed
abbrev pub invariant-loop-node : goal.invariant-loop-node
invariant-loop-node l = (l.rows ≡ map node_row_of (take l.node-index l.nodes)) × All (IsEarlyRow l.files.params) l.rows
