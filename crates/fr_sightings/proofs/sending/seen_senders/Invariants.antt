use Rattle.std.proofs.Common.{◌≡◌, ◌≤◌, All, length, take, filter_map}
use Rattle.fr_sightings.specs.Ranges.{IsProperSender}
use Rattle.fr_sightings.specs.Senders.{seen_sender}
use Rattle.fr_sightings.proofs.sending.seen_senders.Given as goal

-- the senders among the nodes so far
abbrev pub invariant-loop-place : goal.invariant-loop-place
invariant-loop-place l = record {
  value : l.senders.items ≡ filter_map (seen_sender l.observed.scale.now l.observed.params.now l.observed.log.now l.here l.next l.double) (take l.place l.observed.params.now.nodes);
  few : length l.senders.items ≤ l.place;
  proper : All (IsProperSender l.observed.scale.now) l.senders.items;
}
