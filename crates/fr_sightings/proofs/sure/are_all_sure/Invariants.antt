use Rattle.std.proofs.Common.{◌≡◌, true, take}
use Rattle.std.specs.List.{list_all}
use Rattle.fr_sightings.specs.Sure.{is_node_sure}
use Rattle.fr_sightings.proofs.sure.are_all_sure.Given as goal

-- the nodes so far are
abbrev pub invariant-loop-place : goal.invariant-loop-place
invariant-loop-place l = list_all (is_node_sure l.params l.log) (take l.place l.nodes) ≡ true
