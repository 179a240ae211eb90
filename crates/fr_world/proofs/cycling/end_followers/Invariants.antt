use Rattle.std.proofs.Common.{◌≡◌, ◌++◌, map, take, drop}
use Rattle.std.specs.Prelude.{All}
use Rattle.fr_node.specs.Cycle.{ended}
use Rattle.fr_node.specs.Fits.{NodeFits}
use Rattle.fr_world.proofs.cycling.end_followers.Given as goal

-- the cycle of the followers so far has ended, and the others are as they were
abbrev pub invariant-loop-node : goal.invariant-loop-node
invariant-loop-node l =
    (l.followers ≡ map (ended l.files.params) (take l.node-index l.initial.followers) ++ drop l.node-index l.initial.followers)
    × All (NodeFits l.files.params) l.followers
