use Rattle.std.proofs.Common.{◌≡◌, ◌≤◌, ◌∷◌, All, length, map, pos, suc, take}
use Rattle.fr_course.specs.Computed.{own_value}
use Rattle.fr_course.specs.Near.{EndWithin}
use Rattle.fr_sightings.specs.Computing.{heard_courses, value_seen}
use Rattle.fr_sightings.proofs.computed.values_seen.Given as goal

-- its own value, and those of the senders so far
abbrev pub invariant-loop-other : goal.invariant-loop-other
invariant-loop-other l = record {
  value : l.known ≡ own_value ∷ map (value_seen l.measured l.scale l.measuring l.sender.course) (heard_courses (take l.other-index l.senders) l.sender.node);
  few : length l.known ≤ suc l.other-index;
  near : All (EndWithin (pos 21_000_000_000_000)) l.known;
}
