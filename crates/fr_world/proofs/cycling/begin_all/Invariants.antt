use Rattle.std.proofs.Common.{◌≡◌, ◌++◌, map, take, drop}
use Rattle.std.specs.Prelude.{All}
use Rattle.fr_air.specs.Cycling.{begun_in, IsReady}
use Rattle.fr_world.proofs.cycling.begin_all.Given as goal

-- the cycle of the nodes so far has begun, and the others are as they were
abbrev pub invariant-loop-node : goal.invariant-loop-node
invariant-loop-node l =
    (l.nodes ≡ map (begun_in l.files l.cycle) (take l.node-index l.initial.nodes) ++ drop l.node-index l.initial.nodes)
    × All (IsReady l.files l.cycle) (take l.node-index l.nodes)
