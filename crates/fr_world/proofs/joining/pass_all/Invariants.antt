use Rattle.std.proofs.Common.{◌≡◌, ◌-◌, ◌≤◌, length}
use Rattle.std.specs.Prelude.{vec_capacity}
use Rattle.fr_world.specs.Succeeding.{followers_without, nodes_with, CanPass}
use Rattle.fr_world.proofs.joining.pass_all.Given as goal

-- with those that are still to be passed both lists become what they are to be
abbrev pub invariant-walk : goal.invariant-walk
invariant-walk l =
    (nodes_with l.files l.double l.place l.followers.items l.nodes.items ≡ nodes_with l.files l.double 0 l.initial.followers.items l.initial.nodes.items)
    × (followers_without l.files l.double l.place l.followers.items ≡ followers_without l.files l.double 0 l.initial.followers.items)
    × CanPass l.files l.followers.items l.nodes.items
    × (l.place ≤ length l.followers.items)
    × (64 ≤ vec_capacity l.nodes)
    × (vec_capacity l.followers ≡ vec_capacity l.initial.followers)

-- each follower is passed once
abbrev pub decreases-walk : goal.decreases-walk
decreases-walk l = length l.followers.items - l.place
