-- Which correction terms a node can have applied at the end of a double cycle, by its course there and by that of the next
-- double cycle, both counted from the same instant; in microticks.
use Rattle.std.specs.Prelude.{◌+ℤ◌, ◌-ℤ◌, Option}
use Rattle.fr_course.specs.Readings.{meet_if, micros_in, Interval, Scale}
use Rattle.fr_course.specs.Course.{between, share_from, share_to, Course}

-- how far the action point of the next even cycle can lie behind that of the odd one
abbrev pub onward : Course → Course → Option Interval → Interval
onward course next span = meet_if span (between course.odd next.even)

-- how long the offset term can be, as a reading: what lies between the action points without two shares of a cycle
abbrev pub offset_reading : Scale → Course → Course → Option Interval → Interval
offset_reading scale course next span =
    let rest = scale.macros -ℤ course.action in
    let from = onward course next span in
    record {
      low =
          ((from.low -ℤ share_to scale course.action next.length.high) -ℤ share_to scale rest course.length.high)
          -ℤ scale.micro_to;
      high =
          ((from.high -ℤ share_from scale course.action next.length.low) -ℤ share_from scale rest course.length.low)
          +ℤ scale.micro_to;
    }

-- the offset term of the odd cycle
abbrev pub offset_seen : Scale → Course → Course → Option Interval → Interval
offset_seen scale course next span = micros_in scale (offset_reading scale course next span)

-- how much longer the next cycles can be, as a reading, but for the change of the microtick
abbrev pub step_reading : Scale → Course → Course → Interval
step_reading scale course next =
    record {
      low = (next.length.low -ℤ course.length.high) -ℤ scale.change;
      high = (next.length.high -ℤ course.length.low) +ℤ scale.change;
    }

-- the next rate term less that of the double cycle
abbrev pub rate_step_seen : Scale → Course → Course → Interval
rate_step_seen scale course next = micros_in scale (step_reading scale course next)
