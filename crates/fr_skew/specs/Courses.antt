-- Running nodes' cycles, macrotick by macrotick.
use Rattle.std.specs.Prelude.{◌≡◌, ℕ, ℤ, pos, ◌+ℤ◌, ◌*ℤ◌, ◌<ℤ◌, Bool, List, [], ◌∷◌, map, if◌then◌else◌}
use Rattle.fr_base.specs.States.{is_halted}
use Rattle.fr_base.specs.Timed.{IsLength}
use Rattle.fr_base.specs.Within.{IsBetween}
use Rattle.fr_base.specs.declared.node_row.NodeRow.{NodeRow}
use Rattle.fr_time.specs.Cycles.{is_odd}
use Rattle.fr_time.specs.Walk.{first_walk, moved_on, moved_to, next_position}
use Rattle.fr_time.specs.declared.grid.Grid.{Grid}
use Rattle.fr_skew.specs.Spreads.{running}
use Rattle.fr_skew.specs.declared.courses.Course.{Course}

-- a node's cycle before one of its macroticks
abbrev pub course_of : Grid → Bool → ℤ → NodeRow → Course
course_of grid odd macrotick row = record { walk = moved_to (first_walk grid row.rate row.offset odd) macrotick; start = row.start; length = row.length }

-- before its first one, where the node is running
abbrev pub course_if : Grid → Bool → NodeRow → List Course
course_if grid odd row = if is_halted row.state then [] else course_of grid odd (pos 0) row ∷ []

-- the instant of the next macrotick
abbrev pub next_instant : Course → ℤ
next_instant course = course.start +ℤ (next_position course.walk *ℤ course.length)

-- after it
abbrev pub gone_on : Course → Course
gone_on course = record course { walk = moved_on course.walk }

-- before another macrotick
abbrev pub gone_to : ℤ → Course → Course
gone_to macrotick course = record course { walk = moved_to course.walk macrotick }

-- there is a next macrotick, and its instant can be computed
pub record CanGoOn (course : Course) : Type 0 where
  pub more : course.walk.next <ℤ course.walk.grid.macros
  pub start : IsBetween (pos 0) (pos 1_110_000_000_000_000_000) course.start
  pub length : IsLength course.length

-- the cycles of the running nodes, all before the same macrotick
abbrev pub courses_at : Grid → ℕ → List NodeRow → ℤ → List Course
courses_at grid cycle rows macrotick = map (course_of grid (is_odd cycle) macrotick) (running rows)

-- before some macrotick
pub record AreCourses (grid : Grid) (cycle : ℕ) (rows : List NodeRow) (courses : List Course) : Type 0 where
  pub macrotick : ℤ
  pub are : courses ≡ courses_at grid cycle rows macrotick
