-- The skew of the nodes that were seen, in the cycles of a double cycle.
use Rattle.std.specs.Prelude.{ℕ, ◌≡◌, Bool, false, true, ℤ, pos, ◌≤ℤ◌, ◌<ℤ◌, List, All, map}
use Rattle.fr_base.specs.declared.node_row.NodeRow.{NodeRow}
use Rattle.fr_cluster.specs.Values.{Values}
use Rattle.fr_cluster.specs.Sane.{IsSane}
use Rattle.fr_time.specs.Position.{grid_for}
use Rattle.fr_time.specs.Instant.{instant_of}
use Rattle.fr_skew.specs.Spreads.{spread_of}
use Rattle.fr_precision.specs.Rows.{corrected_end_of}
use Rattle.fr_course.specs.Readings.{reading_scale}
use Rattle.fr_course.specs.declared.courses.Course.{Course}
use Rattle.fr_course.specs.Spread.{least_even_skew, least_odd_skew, most_even_skew, most_odd_skew}
use Rattle.fr_seen.specs.Clocks.{IsWithinDrift, StraightClock}
use Rattle.fr_seen.specs.Courses.{HoldsCourse, IsSeenNode}

-- a node that was seen in a double cycle: its course, and its rows
pub record SeenNode : Type 0 where
  pub course : Course
  pub even : NodeRow
  pub odd : NodeRow

-- its course holds
pub record IsOnCourse (p : Values) (drift : ℕ) (clock : StraightClock) (node : SeenNode) : Type 0 where
  pub seen : IsSeenNode p drift clock node.course.action node.even node.odd
  pub holds : HoldsCourse p clock node.course node.even node.odd

-- how far the instants of a macrotick lie apart among some rows, in ticks
abbrev pub spread_among : Values → Bool → ℤ → List NodeRow → ℤ
spread_among p odd macrotick rows = spread_of (map (λ row. instant_of (grid_for p) row odd macrotick) rows)

-- at some macrotick of a cycle they lie at least so far apart
pub record HasSkew (p : Values) (odd : Bool) (rows : List NodeRow) (skew : ℤ) : Type 0 where
  pub macrotick : ℤ
  pub from : pos 0 ≤ℤ macrotick
  pub to : macrotick <ℤ p.macros
  pub reached : skew ≤ℤ spread_among p odd macrotick rows

-- at none further
abbrev pub StaysWithin : Values → Bool → List NodeRow → ℤ → Type 0
StaysWithin p odd rows skew = (macrotick : ℤ) → pos 0 ≤ℤ macrotick → macrotick ≤ℤ p.macros → spread_among p odd macrotick rows ≤ℤ skew

-- the skew of the even cycle is from the least to the greatest that the courses allow
abbrev pub EvenSkewIsSeen : Type 0
EvenSkewIsSeen =
    (p : Values) (drift : ℕ) (clock : StraightClock) (nodes : List SeenNode)
    → IsSane p → IsWithinDrift drift clock → All (IsOnCourse p drift clock) nodes
    → HasSkew p false (map (λ node. node.even) nodes) (least_even_skew (reading_scale drift p) (map (λ node. node.course) nodes))
    × StaysWithin p false (map (λ node. node.even) nodes) (most_even_skew (reading_scale drift p) (map (λ node. node.course) nodes))

abbrev pub OddSkewIsReached : Type 0
OddSkewIsReached =
    (p : Values) (drift : ℕ) (clock : StraightClock) (nodes : List SeenNode)
    → IsSane p → IsWithinDrift drift clock → All (IsOnCourse p drift clock) nodes
    → HasSkew p true (map (λ node. node.odd) nodes) (least_odd_skew (reading_scale drift p) (map (λ node. node.course) nodes))

-- a node that was seen in two double cycles, one after the other
pub record SeenTwice : Type 0 where
  pub first : SeenNode
  pub second : SeenNode

pub record IsOnCourses (p : Values) (drift : ℕ) (clock : StraightClock) (node : SeenTwice) : Type 0 where
  pub first : IsOnCourse p drift clock node.first
  pub second : IsOnCourse p drift clock node.second
  pub follows : node.second.even.start ≡ corrected_end_of p node.first.odd

-- the skew of the odd cycle is no greater than the courses of both allow
abbrev pub OddSkewIsKept : Type 0
OddSkewIsKept =
    (p : Values) (drift : ℕ) (clock : StraightClock) (nodes : List SeenTwice)
    → IsSane p → IsWithinDrift drift clock → All (IsOnCourses p drift clock) nodes
    → StaysWithin p true (map (λ node. node.first.odd) nodes)
    (most_odd_skew (reading_scale drift p) (map (λ node. node.first.course) nodes) (map (λ node. node.second.course) nodes))
