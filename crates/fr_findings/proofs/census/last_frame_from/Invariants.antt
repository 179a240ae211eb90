use Rattle.std.proofs.Common.{◌≡◌, None, fold, take}
use Rattle.fr_findings.specs.Census.{later_frame_from}
use Rattle.fr_findings.proofs.census.last_frame_from.Given as goal

-- the last so far
abbrev pub invariant-loop-sighting : goal.invariant-loop-sighting
invariant-loop-sighting l = l.last ≡ fold (later_frame_from l.node l.channel) None (take l.sighting-index l.seen)
