use Rattle.std.proofs.Common.{◌≡◌, ◌+◌, ◌*◌, ◌≤◌, length, take}
use Rattle.fr_air.specs.Listing.{listed_among}
use Rattle.fr_world.proofs.listing.list_devs.Given as goal

-- the deviations of the nodes so far are listed
abbrev pub invariant-loop-node : goal.invariant-loop-node
invariant-loop-node l =
    (l.devs.entries ≡ listed_among l.params l.odd l.keys (take l.node-index l.nodes))
    × (128 * length l.keys ≤ l.devs.spare + 2 * (length l.keys * l.node-index))
    × (128 * length l.keys ≤ l.devs.spare + length l.devs.entries)
