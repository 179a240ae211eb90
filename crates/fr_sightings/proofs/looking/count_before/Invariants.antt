use Rattle.std.proofs.Common.{◌≡◌, ◌+◌, ◌-◌, ◌≤◌, length, drop}
use Rattle.std.specs.List.{prefix_len}
use Rattle.fr_sightings.specs.Senders.{is_of_earlier}
use Rattle.fr_sightings.proofs.looking.count_before.Given as goal

-- all so far are of double cycles before it
abbrev pub invariant-loop-count : goal.invariant-loop-count
invariant-loop-count l =
    (prefix_len (is_of_earlier l.double) l.seen ≡ l.count + prefix_len (is_of_earlier l.double) (drop l.count l.seen)) × (l.count ≤ length l.seen)

abbrev pub decreases-loop-count : goal.decreases-loop-count
decreases-loop-count l = length l.seen - l.count
