use Rattle.std.proofs.Common.{◌≡◌, take}
use Rattle.std.specs.Prelude.{filter_map, vec_capacity}
use Rattle.fr_world.specs.Succeeding.{listener_now}
use Rattle.fr_world.proofs.beginning.begin_listening.Given as goal

-- those among the nodes so far
abbrev pub invariant-loop-place : goal.invariant-loop-place
invariant-loop-place l =
    (l.listeners.items ≡ filter_map (listener_now l.files l.double) (take l.place l.files.params.nodes))
    × (vec_capacity l.listeners ≡ vec_capacity l.fn.listeners)
