use Rattle.std.proofs.Common.{take}
use Rattle.fr_sightings.proofs.Passed.{IsPassed}
use Rattle.fr_sightings.proofs.walking.sightings.Given as goal

abbrev pub invariant-loop-place : goal.invariant-loop-place
invariant-loop-place l = IsPassed l.params l.log (take l.place l.entries) l.seen
