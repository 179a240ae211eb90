-- Where the clock of a node can lie in a double cycle, by the stamps of the frames that it sent in its slot: readings of an
-- observer's clock. None passes `greatest_corner` on either side, and no product with the macroticks of a cycle, at most
-- 16,000, passes 127 bits.
use Rattle.std.specs.Prelude.{◌+◌, ℤ, pos, ◌+ℤ◌, ◌-ℤ◌, ◌*ℤ◌, Bool, not, ◌||◌, int_le, int_lt, Option, Some, None, if◌then◌else◌}
use Rattle.std.specs.Int.{int_max, int_min}
use Rattle.fr_time.specs.Position.{floor_of}
pub use Rattle.fr_course.specs.declared.courses.Course.{Course}
pub use Rattle.fr_course.specs.declared.stamps.Delays.{Delays}
pub use Rattle.fr_course.specs.declared.stamps.Observer.{Observer}
use Rattle.fr_course.specs.Readings.{ceiling_of, least_reading, most_reading, meet, meet_if, Interval, Scale}

-- ---- stamps

-- how far a stamp may lie before what it stamps
abbrev pub breadth_of : Observer → ℤ
breadth_of observer = pos (observer.unit + observer.error)

-- where the action point of a stamped frame can lie; the stamp in units
abbrev pub stamped : Observer → Delays → ℤ → Interval
stamped observer delays stamp =
    record {
      low = (pos observer.unit *ℤ stamp) -ℤ most_reading observer.drift (pos delays.most);
      high = ((pos observer.unit *ℤ stamp) +ℤ breadth_of observer) -ℤ least_reading observer.drift (pos delays.least);
    }

-- how much later than that of another one of the same sender and channel
abbrev pub span_of : Observer → Delays → ℤ → ℤ → Interval
span_of observer delays stamp later =
    let units = pos observer.unit *ℤ (later -ℤ stamp) in
    let off = breadth_of observer +ℤ most_reading observer.drift (pos delays.jitter) in
    record { low = units -ℤ off; high = units +ℤ off }

-- ---- a double cycle

-- the same counted from an instant so much earlier
abbrev pub later_by : ℤ → Interval → Interval
later_by more interval = record { low = interval.low +ℤ more; high = interval.high +ℤ more }

abbrev pub course_later : ℤ → Course → Course
course_later more course = record course { even = later_by more course.even; odd = later_by more course.odd }

-- nothing lies there
abbrev pub is_empty : Interval → Bool
is_empty interval = int_lt interval.high interval.low

-- how far apart action points that lie there can be
abbrev pub between : Interval → Interval → Interval
between from to = record { low = to.low -ℤ from.high; high = to.high -ℤ from.low }

-- how long cycles can be whose action points lie so far apart
abbrev pub length_seen : Scale → Interval → Interval
length_seen scale apart =
    record {
      low = int_max (apart.low -ℤ scale.change) scale.length_from;
      high = int_min (apart.high +ℤ scale.change) scale.length_to;
    }

-- the lengths that a cluster allows
abbrev pub allowed : Scale → Interval
allowed scale = record { low = scale.length_from; high = scale.length_to }

-- how far apart two action points lie by what is known of each, and by the spans, whether a cluster allows it or not
abbrev pub seen_apart : Interval → Interval → Option Interval → Interval
seen_apart even odd span = meet_if span (between even odd)

-- how far apart two action points can be by what is known of each, and by the spans
abbrev pub apart_by : Scale → Interval → Interval → Option Interval → Interval
apart_by scale even odd span = meet_if span (meet (allowed scale) (between even odd))

-- with a frame in both cycles; where `apart` is empty, no clock of the cluster has such stamps
abbrev pub course_by : Scale → ℤ → Interval → Interval → Interval → Course
course_by scale action even odd apart =
    record {
      action = action;
      even = record { low = int_max even.low (odd.low -ℤ apart.high); high = int_min even.high (odd.high -ℤ apart.low) };
      odd = record { low = int_max odd.low (even.low +ℤ apart.low); high = int_min odd.high (even.high +ℤ apart.high) };
      apart = apart;
      length = length_seen scale apart;
    }

-- in the even one alone, and in the odd one alone
abbrev pub course_on : Scale → ℤ → Interval → Course
course_on scale action even =
    record {
      action = action;
      even = even;
      odd = record { low = even.low +ℤ scale.length_from; high = even.high +ℤ scale.length_to };
      apart = allowed scale;
      length = allowed scale;
    }

abbrev pub course_back : Scale → ℤ → Interval → Course
course_back scale action odd =
    record {
      action = action;
      even = record { low = odd.low -ℤ scale.length_to; high = odd.high -ℤ scale.length_from };
      odd = odd;
      apart = allowed scale;
      length = allowed scale;
    }

-- by the frames that were seen, each on one channel or on both, and by the spans between them; none without a frame
abbrev pub course_from : Scale → ℤ → Option Interval → Option Interval → Option Interval → Option Course
course_from scale action None None span = None
course_from scale action (Some even) None span = Some (course_on scale action even)
course_from scale action None (Some odd) span = Some (course_back scale action odd)
course_from scale action (Some even) (Some odd) span = Some (course_by scale action even odd (apart_by scale even odd span))

-- ---- its corners

-- a share of a length, so many macroticks of a cycle, at least and at most
abbrev pub share_from : Scale → ℤ → ℤ → ℤ
share_from scale macroticks length = floor_of (macroticks *ℤ length) scale.macros

abbrev pub share_to : Scale → ℤ → ℤ → ℤ
share_to scale macroticks length = ceiling_of (macroticks *ℤ length) scale.macros

-- a point between two others that lie a cycle apart, so many macroticks before the second and the others behind the first
abbrev pub mean_from : Scale → ℤ → ℤ → ℤ → ℤ
mean_from scale before first second = floor_of ((before *ℤ first) +ℤ ((scale.macros -ℤ before) *ℤ second)) scale.macros

abbrev pub mean_to : Scale → ℤ → ℤ → ℤ → ℤ
mean_to scale before first second = ceiling_of ((before *ℤ first) +ℤ ((scale.macros -ℤ before) *ℤ second)) scale.macros

-- the start of the even cycle
abbrev pub even_start : Scale → Course → Interval
even_start scale course =
    record {
      low = course.even.low -ℤ share_to scale course.action course.length.high;
      high = (course.even.high -ℤ share_from scale course.action course.length.low) +ℤ scale.micro_to;
    }

-- the start of the odd one: by the action point before it, by that behind it, and between both
abbrev pub odd_start : Scale → Course → Interval
odd_start scale course =
    let rest = scale.macros -ℤ course.action in
    record {
      low =
          int_max (course.even.low +ℤ share_from scale rest course.length.low)
          (
          int_max (course.odd.low -ℤ share_to scale course.action course.length.high)
          (mean_from scale course.action course.even.low course.odd.low -ℤ scale.change)
          );
      high =
          int_min (course.even.high +ℤ share_to scale rest course.length.high)
          (
          int_min (course.odd.high -ℤ share_from scale course.action course.length.low)
          (mean_to scale course.action course.even.high course.odd.high +ℤ scale.change)
          )
          +ℤ scale.micro_to;
    }

-- the point of the even cycle at which an offset correction would start, before it is rounded down to microticks; its
-- macrotick lies there, or less than a microtick before
abbrev pub even_turn : Scale → Course → Interval
even_turn scale course =
    let ahead = scale.correction -ℤ course.action in
    let before = scale.macros -ℤ ahead in
    record {
      low =
          int_max (course.even.low +ℤ share_from scale ahead course.length.low)
          (mean_from scale before course.even.low course.odd.low -ℤ scale.change);
      high =
          int_min (course.even.high +ℤ share_to scale ahead course.length.high)
          (mean_to scale before course.even.high course.odd.high +ℤ scale.change)
          +ℤ scale.micro_to;
    }

-- that of the odd cycle
abbrev pub odd_turn : Scale → Course → Interval
odd_turn scale course =
    let ahead = scale.correction -ℤ course.action in
    record {
      low = course.odd.low +ℤ share_from scale ahead course.length.low;
      high = (course.odd.high +ℤ share_to scale ahead course.length.high) +ℤ scale.micro_to;
    }

-- a macrotick of the odd cycle, up to the start of the offset correction
abbrev pub odd_macrotick : Scale → Course → ℤ → Interval
odd_macrotick scale course macrotick =
    let ahead = macrotick -ℤ course.action in
    if int_le (pos 0) ahead
    then record {
      low = (course.odd.low +ℤ share_from scale ahead course.length.low) -ℤ scale.micro_to;
      high = (course.odd.high +ℤ share_to scale ahead course.length.high) +ℤ scale.micro_to;
    }
    else record {
      low = (course.odd.low +ℤ share_from scale ahead course.length.high) -ℤ scale.micro_to;
      high = (course.odd.high +ℤ share_to scale ahead course.length.low) +ℤ scale.micro_to;
    }

-- ---- whether it is there

-- no interval of a course is empty
abbrev pub is_there : Course → Bool
is_there course = not (is_empty course.even || is_empty course.odd || is_empty course.apart || is_empty course.length)
