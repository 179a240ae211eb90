use Rattle.std.proofs.Common.{◌≡◌, ◌++◌, None, map, take, drop}
use Rattle.std.specs.Prelude.{IfSome}
use Rattle.std.specs.List.{fold}
use Rattle.fr_skew.specs.Courses.{gone_on, next_instant}
use Rattle.fr_skew.specs.Extents.{with_number, IsExtent}
use Rattle.fr_skew.proofs.courses.next_extent.Given as goal

-- those so far have gone on, and the extent is that of their instants; the others are as they were
abbrev pub invariant-loop-course : goal.invariant-loop-course
invariant-loop-course l =
    (l.courses ≡ map gone_on (take l.course-index l.initial.courses) ++ drop l.course-index l.initial.courses)
    × (l.extent ≡ fold with_number None (map next_instant (take l.course-index l.initial.courses)))
    × IfSome l.extent IsExtent
