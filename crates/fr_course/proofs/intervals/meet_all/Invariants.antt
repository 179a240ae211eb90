use Rattle.std.proofs.Common.{◌≡◌, drop}
use Rattle.fr_course.specs.Readings.{meet_all}
use Rattle.fr_course.proofs.intervals.meet_all.Given as goal

-- what lies in all of those behind this place
abbrev pub invariant-loop-place : goal.invariant-loop-place
invariant-loop-place l = l.met ≡ meet_all (drop l.place l.intervals)
