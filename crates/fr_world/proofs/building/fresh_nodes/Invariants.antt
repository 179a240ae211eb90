use Rattle.std.proofs.Common.{false, [], map, take}
use Rattle.std.specs.Prelude.{filter, vec_capacity}
use Rattle.fr_air.specs.Views.{node_of_next}
use Rattle.fr_air.specs.Files.{setting_in}
use Rattle.fr_world.specs.World.{is_fresh}
use Rattle.fr_world.proofs.building.fresh_nodes.Given as goal
use Rattle.fr_world.proofs.Fresh.{AreGathered}

-- those that take part from cycle 0 on among the nodes so far
abbrev pub invariant-loop-place : goal.invariant-loop-place
invariant-loop-place l =
    AreGathered l.files (map (λ node. node_of_next (setting_in l.files) [] false node.id) (filter (λ node. is_fresh (setting_in l.files) node.id) (take l.place l.files.params.nodes)))
    l.nodes.items (vec_capacity l.nodes)
