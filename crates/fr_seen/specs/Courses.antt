-- What a course says of a node: where its action points lie, how far apart, and how long its cycles are; and then where its
-- cycles start, where an offset correction would start in both, and all macroticks of the odd cycle up to there.
use Rattle.std.specs.Prelude.{ℕ, ◌≡◌, false, true, ℤ, pos, ◌+ℤ◌, ◌-ℤ◌, ◌*ℤ◌, ◌≤ℤ◌, Option, Some}
use Rattle.std.specs.Option.{ForSome}
use Rattle.fr_base.specs.Within.{IsBetween}
use Rattle.fr_base.specs.declared.node_row.NodeRow.{NodeRow}
use Rattle.fr_cluster.specs.Values.{Values}
use Rattle.fr_cluster.specs.Sane.{IsSane}
use Rattle.fr_time.specs.Position.{grid_for}
use Rattle.fr_time.specs.Instant.{instant_of}
use Rattle.fr_bound.specs.Sync.{cycle_length_of}
use Rattle.fr_precision.specs.Placement.{IsRegular}
use Rattle.fr_course.specs.declared.intervals.Interval.{Interval}
use Rattle.fr_course.specs.Scales.{Scale}
use Rattle.fr_course.specs.Readings.{reading_scale}
use Rattle.fr_course.specs.declared.courses.Course.{Course}
use Rattle.fr_course.specs.Course.{course_from, even_start, even_turn, is_empty, odd_macrotick, odd_start, odd_turn}
use Rattle.fr_seen.specs.Clocks.{reading_at, reading_of, IsWithinDrift, LastsIn, ReadsIn, StraightClock}

-- the instants of a node's action points in both cycles
abbrev pub even_action : Values → NodeRow → ℤ → ℤ
even_action p even action = instant_of (grid_for p) even false action

abbrev pub odd_action : Values → NodeRow → ℤ → ℤ
odd_action p odd action = instant_of (grid_for p) odd true action

pub record HoldsCourse (p : Values) (clock : StraightClock) (course : Course) (even odd : NodeRow) : Type 0 where
  pub in_even : ReadsIn clock course.even (even_action p even course.action)
  pub in_odd : ReadsIn clock course.odd (odd_action p odd course.action)
  pub lies_apart : LastsIn clock course.apart (odd_action p odd course.action -ℤ even_action p even course.action)
  pub even_lasts : LastsIn clock course.length (cycle_length_of p even)
  pub odd_lasts : LastsIn clock course.length (cycle_length_of p odd)

-- a node with regular rows that sends at this macrotick, seen by a clock
pub record IsSeenNode (p : Values) (drift : ℕ) (clock : StraightClock) (action : ℤ) (even odd : NodeRow) : Type 0 where
  pub sane : IsSane p
  pub within_drift : IsWithinDrift drift clock
  pub regular : IsRegular p even odd
  pub acts_from : pos 0 ≤ℤ action
  pub acts_to : action ≤ℤ p.correction

-- where the action points lie that were seen, and how far apart
pub record AreSeen (p : Values) (clock : StraightClock) (action : ℤ) (even odd : NodeRow) (early late span : Option Interval) : Type 0 where
  pub in_even : ForSome early (λ box. ReadsIn clock box (even_action p even action))
  pub in_odd : ForSome late (λ box. ReadsIn clock box (odd_action p odd action))
  pub spanned : ForSome span (λ long. LastsIn clock long (odd_action p odd action -ℤ even_action p even action))

-- the course of what was seen holds
abbrev pub CoursesHold : Type 0
CoursesHold =
    (p : Values) (drift : ℕ) (clock : StraightClock) (action : ℤ) (even odd : NodeRow) (early late span : Option Interval) (course : Course)
    → IsSeenNode p drift clock action even odd → AreSeen p clock action even odd early late span
    → course_from (reading_scale drift p) action early late span ≡ Some course
    → (course.action ≡ action) × HoldsCourse p clock course even odd

-- no interval of a course that holds is empty
pub record IsCourseThere (course : Course) : Type 0 where
  pub even : is_empty course.even ≡ false
  pub odd : is_empty course.odd ≡ false
  pub apart : is_empty course.apart ≡ false
  pub length : is_empty course.length ≡ false

abbrev pub CoursesAreThere : Type 0
CoursesAreThere =
    (p : Values) (drift : ℕ) (clock : StraightClock) (course : Course) (even odd : NodeRow)
    → IsWithinDrift drift clock → HoldsCourse p clock course even odd → IsCourseThere course

-- where the macrotick lies that is rounded down, from a point on the line on, by less than a microtick
abbrev pub rounded_down : Scale → Interval → Interval
rounded_down scale point = record { low = point.low -ℤ scale.micro_to; high = point.high }

-- the point so many parts of a length after a start lies in an interval; it need not be a whole number
abbrev pub PointReadsIn : StraightClock → ℤ → Interval → ℤ → ℤ → ℤ → Type 0
PointReadsIn clock parts interval start macrotick long =
    IsBetween ((parts *ℤ clock.ticks) *ℤ interval.low) ((parts *ℤ clock.ticks) *ℤ interval.high)
    ((parts *ℤ reading_at clock start) +ℤ (macrotick *ℤ reading_of clock long))

pub record HasCorners (p : Values) (scale : Scale) (clock : StraightClock) (course : Course) (even odd : NodeRow) : Type 0 where
  pub even_starts : ReadsIn clock (even_start scale course) even.start
  pub odd_starts : ReadsIn clock (odd_start scale course) odd.start
  pub even_point : PointReadsIn clock p.macros (even_turn scale course) even.start p.correction (cycle_length_of p even)
  pub odd_point : PointReadsIn clock p.macros (odd_turn scale course) odd.start p.correction (cycle_length_of p odd)
  pub even_turns : ReadsIn clock (rounded_down scale (even_turn scale course)) (instant_of (grid_for p) even false p.correction)
  pub odd_turns : ReadsIn clock (rounded_down scale (odd_turn scale course)) (instant_of (grid_for p) odd true p.correction)
  pub macroticks :
      (macrotick : ℤ) → macrotick ≤ℤ p.correction
      → ReadsIn clock (odd_macrotick scale course macrotick) (instant_of (grid_for p) odd true macrotick)

abbrev pub CornersLie : Type 0
CornersLie =
    (p : Values) (drift : ℕ) (clock : StraightClock) (course : Course) (even odd : NodeRow)
    → IsSeenNode p drift clock course.action even odd → HoldsCourse p clock course even odd
    → HasCorners p (reading_scale drift p) clock course even odd
