use Rattle.std.proofs.Common.{◌≡◌, IfSome, List, pos}
use Rattle.fr_course.specs.Ends.{AreRanked}
use Rattle.fr_course.specs.Middles.{highs_of, lows_of, middle_missing}
use Rattle.fr_course.specs.Near.{EndWithin}
use Rattle.fr_course.specs.Readings.{Interval}
use Rattle.fr_course.proofs.middles.middle_missing.Given as goal

-- with the further values so far
abbrev pub invariant-loop-less : goal.invariant-loop-less
invariant-loop-less l =
    ((known : List Interval) → AreRanked (lows_of known) l.lows → AreRanked (highs_of known) l.highs → l.all ≡ middle_missing l.less l.missed known)
    × IfSome l.all (EndWithin (pos 21_000_000_000_000))
