use Rattle.std.proofs.Common.{◌≡◌, ◌≤◌, All, length, map, take}
use Rattle.fr_course.specs.Near.{IsNearCourse}
use Rattle.fr_observe.proofs.skews.courses_of.Given as goal

-- the courses of the senders so far
abbrev pub invariant-loop-sender : goal.invariant-loop-sender
invariant-loop-sender l = record {
  value : l.courses ≡ map (λ s. s.course) (take l.sender-index l.senders);
  few : length l.courses ≤ l.sender-index;
  near : All (IsNearCourse l.scale) l.courses;
}
