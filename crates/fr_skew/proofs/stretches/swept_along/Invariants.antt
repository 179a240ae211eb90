use Rattle.std.proofs.Common.{◌-◌, ◌≤◌}
use Rattle.fr_skew.specs.Courses.{AreCourses}
use Rattle.fr_skew.specs.Sweep.{greatest_within}
use Rattle.fr_skew.proofs.Agreeing.{Agree}
use Rattle.fr_skew.proofs.stretches.swept_along.Given as goal

-- the sweep agrees with the whole one up to this macrotick, and the courses are those of the rows
abbrev pub invariant-loop-from : goal.invariant-loop-from
invariant-loop-from l =
    (l.from ≤ l.macros) × Agree l.known l.peak (greatest_within l.grid l.cycle l.rows l.fn.before l.from) × AreCourses l.grid l.cycle l.rows l.courses

abbrev pub decreases-loop-from : goal.decreases-loop-from
decreases-loop-from l = l.macros - l.from
