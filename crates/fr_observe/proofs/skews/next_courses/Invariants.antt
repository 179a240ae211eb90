use Rattle.std.proofs.Common.{◌≡◌, ◌≤◌, All, Some, length, map, take}
use Rattle.fr_course.specs.Near.{IsNearCourse}
use Rattle.fr_observe.specs.Observing.{all_there}
use Rattle.fr_observe.proofs.skews.next_courses.Given as goal

-- all senders so far have a next course
abbrev pub invariant-loop-sender : goal.invariant-loop-sender
invariant-loop-sender l = record {
  value : all_there (map (λ s. s.next) (take l.sender-index l.senders)) ≡ Some l.courses;
  few : length l.courses ≤ l.sender-index;
  near : All (IsNearCourse l.scale) l.courses;
}
