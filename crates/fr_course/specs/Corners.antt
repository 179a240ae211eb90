-- The corners of a course, and the length of its cycles, by their names.
use Rattle.fr_course.specs.Readings.{Interval, Scale}
use Rattle.fr_course.specs.Course.{even_start, even_turn, odd_start, odd_turn, Course}
use Rattle.fr_course.specs.Spread.{course_length}
use Rattle.fr_course.specs.declared.skews.Corner.{Corner}
use Rattle.fr_course.specs.declared.skews.Corner.TheVariants as corner

-- where a corner of a course can lie, and how long its cycles can be
abbrev pub corner_place : Corner → Scale → Course → Interval
corner_place corner.EvenStart scale course = even_start scale course
corner_place corner.EvenTurn scale course = even_turn scale course
corner_place corner.OddStart scale course = odd_start scale course
corner_place corner.OddTurn scale course = odd_turn scale course
corner_place corner.Length scale course = course_length scale course
