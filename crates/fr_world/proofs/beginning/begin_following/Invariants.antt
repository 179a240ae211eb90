use Rattle.std.proofs.Common.{◌≡◌, ◌≤◌, drop}
use Rattle.std.specs.Prelude.{All, filter_map, vec_capacity}
use Rattle.fr_node.specs.Fits.{NodeFits}
use Rattle.fr_air.specs.Placing.{put_all}
use Rattle.fr_world.specs.Succeeding.{first_now}
use Rattle.fr_world.proofs.beginning.begin_following.Given as goal

-- with those that are still to begin the followers become what they are to be
abbrev pub invariant-loop-listener : goal.invariant-loop-listener
invariant-loop-listener l =
    (put_all (λ n. n.id) (filter_map (first_now l.files l.cycle) (drop l.listener-index l.listeners)) l.followers.items
    ≡ put_all (λ n. n.id) (filter_map (first_now l.files l.cycle) l.listeners) l.initial.followers.items)
    × All (NodeFits l.files.params) l.followers.items
    × (64 ≤ vec_capacity l.followers)
