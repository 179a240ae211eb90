-- What is computed of stamps lies in the ranges of Ranges.antt: numbers of a log, intervals, and courses.
use Rattle.std.specs.Prelude.{◌≤◌, ℤ, pos, neg_ℤ, ◌≤ℤ◌}
use Rattle.fr_course.specs.Ranges.{greatest_apart, greatest_corner, greatest_delay, greatest_length, greatest_off, greatest_point, greatest_seen, greatest_term, greatest_ticks, greatest_undamped, greatest_unit, greatest_value}
use Rattle.fr_course.specs.Readings.{Interval, Scale}
pub use Rattle.fr_course.specs.Measures.{IsMeasuring}
pub use Rattle.fr_course.specs.Scales.{IsReadingScale}
use Rattle.fr_course.specs.Course.{Course, Delays, Observer}

-- the numbers of a log's head, and those of a delay
pub record IsObserver (observer : Observer) : Type 0 where
  pub unit : observer.unit ≤ greatest_unit
  pub drift : observer.drift ≤ 1000
  pub error : observer.error ≤ greatest_unit

pub record AreDelays (delays : Delays) : Type 0 where
  pub least : delays.least ≤ greatest_delay
  pub most : delays.most ≤ greatest_delay
  pub jitter : delays.jitter ≤ greatest_delay

-- both ends of an interval lie between two numbers
pub record EndBetween (least greatest : ℤ) (interval : Interval) : Type 0 where
  pub low_from : least ≤ℤ interval.low
  pub low_to : interval.low ≤ℤ greatest
  pub high_from : least ≤ℤ interval.high
  pub high_to : interval.high ≤ℤ greatest

-- both ends of an interval lie within a bound of 0
abbrev pub EndWithin : ℤ → Interval → Type 0
EndWithin bound interval = EndBetween (neg_ℤ bound) bound interval

-- where an action point can lie, by one stamp or by several
abbrev pub IsBox : Interval → Type 0
IsBox interval = EndBetween (neg_ℤ greatest_off) greatest_seen interval

-- how far apart two of them can lie, by their stamps
abbrev pub IsSpan : Interval → Type 0
IsSpan interval = EndWithin greatest_seen interval

-- where an action point of a course can lie, and one of its corners
abbrev pub IsPoint : Interval → Type 0
IsPoint interval = EndWithin greatest_point interval

abbrev pub IsCorner : Interval → Type 0
IsCorner interval = EndWithin greatest_corner interval

-- how far apart its action points can lie, and how long its cycles can be
abbrev pub IsApart : Interval → Type 0
IsApart interval = EndWithin greatest_apart interval

abbrev pub IsSeenLength : Interval → Type 0
IsSeenLength interval = EndWithin greatest_length interval

-- how many ticks readings can be
abbrev pub IsInTicks : Interval → Type 0
IsInTicks interval = EndWithin greatest_ticks interval

-- which correction term a node can have applied, or by how much it can have grown
abbrev pub IsTerm : Interval → Type 0
IsTerm interval = EndWithin greatest_term interval

-- which values it can have measured, and which ones before their damping
abbrev pub HasValues : Interval → Type 0
HasValues interval = EndWithin greatest_value interval

abbrev pub HasUndamped : Interval → Type 0
HasUndamped interval = EndWithin greatest_undamped interval

-- what is known of a node in a double cycle
pub record IsNearCourse (scale : Scale) (course : Course) : Type 0 where
  pub action_from : pos 0 ≤ℤ course.action
  pub action_to : course.action ≤ℤ scale.correction
  pub even : IsPoint course.even
  pub odd : IsPoint course.odd
  pub apart : IsApart course.apart
  pub length : IsSeenLength course.length
