use Rattle.std.proofs.Common.{◌≡◌, length, map, take}
use Rattle.fr_course.specs.Ends.{interval_end}
use Rattle.fr_course.proofs.middles.ranked.Given as goal

-- the ends so far
abbrev pub invariant-loop-interval : goal.invariant-loop-interval
invariant-loop-interval l =
    (l.list ≡ map (interval_end l.end) (take l.interval-index l.known)) × (length l.list ≡ l.interval-index)
