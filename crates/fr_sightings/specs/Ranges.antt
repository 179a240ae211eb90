-- What holds of the sightings of a log, and of courses and senders by them.
use Rattle.std.specs.Prelude.{◌≡◌, ℕ, ◌≤◌, ◌*◌, ℤ, pos, List, All, IfSome}
use Rattle.std.specs.List.Sorted.{IsNonDecreasingBy}
use Rattle.fr_cluster.specs.Values.{Values, amount}
use Rattle.fr_cluster.specs.declared.names.ParamName.TheVariants as name
use Rattle.fr_cluster.specs.declared.nodes.NodeSpec.{NodeSpec}
use Rattle.fr_log.specs.Rows.{last_stamp}
use Rattle.fr_log.specs.View.{LogView}
use Rattle.fr_course.specs.Near.{IsNearCourse, IsSpan}
use Rattle.fr_course.specs.declared.courses.Course.{Course}
use Rattle.fr_course.specs.Scales.{Scale}
use Rattle.fr_sightings.specs.Senders.{double_of}
use Rattle.fr_sightings.specs.declared.sender.Sender.{Sender}
use Rattle.fr_sightings.specs.declared.sighting.Sighting.{Sighting}

-- no double cycle comes before that of a sighting before it
abbrev pub DoublesAscend : List Sighting → Type 0
DoublesAscend seen = IsNonDecreasingBy double_of seen

-- none comes before this one
abbrev pub AreSeenFrom : ℕ → List Sighting → Type 0
AreSeenFrom double seen = All (λ s. double ≤ double_of s) seen

-- cycles are those of a log
abbrev pub AreNumbered : List Sighting → Type 0
AreNumbered seen = All (λ s. s.number ≤ 199_999) seen

-- stamps lie within the limits of the log
abbrev pub AreLogStamps : LogView → List Sighting → Type 0
AreLogStamps l seen = All (λ s. l.unit * s.stamp ≤ last_stamp) seen

-- so do those of frames that do not come in time and of irregular ones; their numbers are those of cycles of a log, and no double
-- cycle is before that of one before it
pub record AreLate (l : LogView) (frames : List Sighting) : Type 0 where
  pub numbered : AreNumbered frames
  pub timed : AreLogStamps l frames
  pub ascend : DoublesAscend frames

-- the key slot of a node, if it has one, is a static slot
abbrev pub HasStaticKey : Values → NodeSpec → Type 0
HasStaticKey p node = IfSome node.key (λ slot. slot ≤ amount p name.gNumberOfStaticSlots)

-- a course is that of a node that sends at a macrotick, and lies within the ranges of courses
pub record IsCourseAt (scale : Scale) (action : ℤ) (course : Course) : Type 0 where
  pub near : IsNearCourse scale course
  pub acts : course.action ≡ action

-- so are those of a sender
pub record IsProperSender (scale : Scale) (s : Sender) : Type 0 where
  pub course : IsNearCourse scale s.course
  pub next : IfSome s.next (IsCourseAt scale s.course.action)
  pub onward : IfSome s.onward IsSpan

-- ---- the greatest amounts of what frames are placed by, in ticks; of signed ones, on either side of 0

-- a cycle at the nominal microtick, and half of one
abbrev pub greatest_nominal_cycle : ℤ
greatest_nominal_cycle = pos 640_000_000_000

-- how far the schedule has two action points apart
abbrev pub greatest_scheduled : ℤ
greatest_scheduled = pos 400_000_000_000_000_000

-- how far off clocks are, a reading is, and starts of nodes are apart: `clocks_off`, `reading_off` and `off_schedule` tell how
abbrev pub greatest_clocks_off : ℕ
greatest_clocks_off = 400_000_000_000

abbrev pub greatest_reading_off : ℕ
greatest_reading_off = 30_000_000_000

abbrev pub greatest_starts_off : ℕ
greatest_starts_off = 20_000_000_000

-- how far off the schedule a frame comes, by all of them and a delay
abbrev pub greatest_off_schedule : ℕ
greatest_off_schedule = 1_000_000_000_000

-- ---- scales

-- a scale is that of a cluster
pub record IsScaleOf (p : Values) (scale : Scale) : Type 0 where
  pub correction : scale.correction ≡ p.correction
