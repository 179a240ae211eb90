use Rattle.std.proofs.Common.{◌≡◌, ◌++◌, pos, map, take, drop}
use Rattle.fr_skew.specs.Courses.{gone_to}
use Rattle.fr_skew.proofs.courses.go_all.Given as goal

-- those so far are there, and the others are as they were
abbrev pub invariant-loop-course : goal.invariant-loop-course
invariant-loop-course l = l.courses ≡ map (gone_to (pos l.macrotick)) (take l.course-index l.initial.courses) ++ drop l.course-index l.initial.courses
