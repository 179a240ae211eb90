use Rattle.std.proofs.Common.{◌≡◌, ◌≤◌, count_by, take}
use Rattle.fr_findings.specs.Census.{is_from}
use Rattle.fr_findings.proofs.census.frames_from.Given as goal

-- those so far
abbrev pub invariant-loop-sighting : goal.invariant-loop-sighting
invariant-loop-sighting l = (l.frames ≡ count_by (is_from l.node l.channel) (take l.sighting-index l.seen)) × (l.frames ≤ l.sighting-index)
