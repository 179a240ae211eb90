use Rattle.std.proofs.Common.{◌≡◌, ◌-◌, ◌≤◌, pos}
use Rattle.fr_skew.specs.Courses.{courses_at}
use Rattle.fr_skew.specs.Sweep.{greatest_after}
use Rattle.fr_skew.proofs.stretches.swept_or_left.Given as goal

-- the greatest skew up to this macrotick, before which all courses are
abbrev pub invariant-loop-macrotick : goal.invariant-loop-macrotick
invariant-loop-macrotick l =
    (l.from ≤ l.macrotick)
    × (l.peak ≡ greatest_after l.grid l.cycle l.rows l.fn.before l.from (l.macrotick - l.from))
    × (l.courses ≡ courses_at l.grid l.cycle l.rows (pos l.macrotick))
