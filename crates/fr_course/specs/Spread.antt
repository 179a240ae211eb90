-- How far macroticks of the nodes that were seen lie apart, at least and at most, in ticks.
use Rattle.std.specs.Prelude.{ℤ, pos, ◌+ℤ◌, ◌-ℤ◌, Option, Some, List, [], ◌∷◌, map}
use Rattle.std.specs.Option.{option_map}
use Rattle.std.specs.Int.{int_max}
use Rattle.fr_course.specs.Readings.{least_ticks, most_ticks, Interval, Scale}
use Rattle.fr_course.specs.Course.{even_start, even_turn, odd_start, odd_turn, Course}

-- how far apart two points lie at least and at most, where each lies in an interval: one of both behind the other
abbrev pub least_distance : Interval → Interval → ℤ
least_distance one other = int_max (one.low -ℤ other.high) (other.low -ℤ one.high)

abbrev pub most_distance : Interval → Interval → ℤ
most_distance one other = int_max (one.high -ℤ other.low) (other.high -ℤ one.low)

-- one point and others: at least so far from one of them, at most so far from any
unfoldable pub least_from : Interval → List Interval → ℤ
least_from point [] = pos 0
least_from point (other ∷ others) = int_max (least_distance point other) (least_from point others)

unfoldable pub most_from : Interval → List Interval → ℤ
most_from point [] = pos 0
most_from point (other ∷ others) = int_max (most_distance point other) (most_from point others)

-- the same of any two; 0 of one alone and of none
unfoldable pub least_spread : List Interval → ℤ
least_spread [] = pos 0
least_spread (point ∷ others) = int_max (least_from point others) (least_spread others)

unfoldable pub most_spread : List Interval → ℤ
most_spread [] = pos 0
most_spread (point ∷ others) = int_max (most_from point others) (most_spread others)

-- those of a corner of the courses
abbrev pub least_at : Scale → (Scale → Course → Interval) → List Course → ℤ
least_at scale corner courses = least_spread (map (corner scale) courses)

abbrev pub most_at : Scale → (Scale → Course → Interval) → List Course → ℤ
most_at scale corner courses = most_spread (map (corner scale) courses)

-- how far apart the starts of the even cycle lie, and how far apart the lengths of cycles, at least and at most, in ticks
abbrev pub starts_apart : Scale → List Course → Interval
starts_apart scale courses =
    record {
      low = least_ticks scale.drift (least_at scale even_start courses);
      high = most_ticks scale.drift (most_at scale even_start courses);
    }

abbrev pub course_length : Scale → Course → Interval
course_length scale course = course.length

abbrev pub lengths_apart : Scale → List Course → Interval
lengths_apart scale courses =
    record {
      low = least_ticks scale.drift (least_at scale course_length courses);
      high = most_ticks scale.drift (most_at scale course_length courses);
    }

-- the skew of the even cycle is no less, and no greater, in ticks
abbrev pub least_even_skew : Scale → List Course → ℤ
least_even_skew scale courses =
    least_ticks scale.drift (int_max (least_at scale even_start courses) (least_at scale even_turn courses -ℤ scale.micro_to))

abbrev pub most_even_skew : Scale → List Course → ℤ
most_even_skew scale courses =
    most_ticks scale.drift (int_max (most_at scale even_start courses) (most_at scale odd_start courses) +ℤ scale.micro_to)

-- those of the odd cycle; how far apart macroticks can be behind its start of the offset correction is told by the courses of
-- the same nodes in the next double cycle, counted from the same instant or another one
abbrev pub least_odd_skew : Scale → List Course → ℤ
least_odd_skew scale courses =
    least_ticks scale.drift (int_max (least_at scale odd_start courses) (least_at scale odd_turn courses -ℤ scale.micro_to))

abbrev pub most_odd_skew : Scale → List Course → List Course → ℤ
most_odd_skew scale courses next =
    most_ticks
    scale.drift
    (
    int_max (most_at scale odd_start courses)
    (int_max (most_at scale odd_turn courses +ℤ scale.micro_to) (most_at scale even_start next))
    +ℤ scale.micro_to
    )

-- the skew of a cycle, from one number of ticks to another, or without an upper limit
pub record SkewLimits : Type 0 where
  pub low : ℤ
  pub high : Option ℤ

abbrev pub even_skew : Scale → List Course → SkewLimits
even_skew scale courses = record { low = least_even_skew scale courses; high = Some (most_even_skew scale courses) }

-- with the next courses, where each of the nodes has one
abbrev pub odd_skew : Scale → List Course → Option (List Course) → SkewLimits
odd_skew scale courses next =
    record { low = least_odd_skew scale courses; high = option_map (most_odd_skew scale courses) next }
