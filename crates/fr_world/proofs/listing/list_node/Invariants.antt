use Rattle.std.proofs.Common.{◌≡◌, ◌+◌, ◌*◌, ◌≤◌, ◌++◌, length, take}
use Rattle.std.specs.List.{flat_map}
use Rattle.fr_history.specs.Offers.{channels}
use Rattle.fr_air.specs.Listing.{listed_at}
use Rattle.fr_world.proofs.listing.list_node.Given as goal

-- the deviations in the key slots so far are listed
abbrev pub invariant-loop-slot : goal.invariant-loop-slot
invariant-loop-slot l =
    (l.devs.entries ≡ l.initial.devs.entries ++ flat_map (λ slot. flat_map (listed_at l.params l.odd l.node slot) channels) (take l.slot-index l.keys))
    × (l.initial.devs.spare ≤ l.devs.spare + 2 * l.slot-index)
    × (l.initial.devs.spare + length l.initial.devs.entries ≤ l.devs.spare + length l.devs.entries)
