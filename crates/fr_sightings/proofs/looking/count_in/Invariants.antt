use Rattle.std.proofs.Common.{◌≡◌, ◌+◌, ◌-◌, ◌≤◌, length, drop}
use Rattle.std.specs.List.{prefix_len}
use Rattle.fr_sightings.specs.Senders.{is_in}
use Rattle.fr_sightings.proofs.looking.count_in.Given as goal

-- all so far are of the double cycle
abbrev pub invariant-loop-count : goal.invariant-loop-count
invariant-loop-count l =
    (prefix_len (is_in l.double) l.seen ≡ l.count + prefix_len (is_in l.double) (drop l.count l.seen)) × (l.count ≤ length l.seen)

abbrev pub decreases-loop-count : goal.decreases-loop-count
decreases-loop-count l = length l.seen - l.count
