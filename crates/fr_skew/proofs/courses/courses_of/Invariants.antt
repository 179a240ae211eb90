use Rattle.std.proofs.Common.{◌≡◌, ◌≤◌, length, take}
use Rattle.std.specs.List.{flat_map}
use Rattle.fr_time.specs.Cycles.{is_odd}
use Rattle.fr_skew.specs.Courses.{course_if}
use Rattle.fr_skew.proofs.courses.courses_of.Given as goal

-- the courses of the rows so far
abbrev pub invariant-loop-row : goal.invariant-loop-row
invariant-loop-row l = (l.courses.items ≡ flat_map (course_if l.grid (is_odd l.cycle)) (take l.row-index l.rows)) × (length l.courses.items ≤ l.row-index)
