-- What a sender must have computed: the values that it has of the others.
use Rattle.std.specs.Prelude.{ℕ, ◌==◌, not, List, map}
use Rattle.std.specs.List.{filter}
use Rattle.fr_course.specs.Computed.{deviation_seen, rate_value_seen}
use Rattle.fr_course.specs.declared.courses.Course.{Course}
use Rattle.fr_course.specs.declared.intervals.Interval.{Interval}
use Rattle.fr_course.specs.Measures.{Measuring}
use Rattle.fr_course.specs.Scales.{Scale}
use Rattle.fr_sightings.specs.declared.computed.Measured.{Measured}
use Rattle.fr_sightings.specs.declared.computed.Measured.TheVariants as measured
use Rattle.fr_sightings.specs.declared.sender.Sender.{Sender}

-- the courses of the senders that a node hears: all but its own
abbrev pub heard_courses : List Sender → ℕ → List Course
heard_courses senders node = map (λ s. s.course) (filter (λ s. not (s.node == node)) senders)

-- a value of a receiver of a sender
abbrev pub value_seen : Measured → Scale → Measuring → Course → Course → Interval
value_seen measured.Deviation scale m receiver sender = deviation_seen scale m receiver sender
value_seen measured.RateValue scale m receiver sender = rate_value_seen scale m receiver sender
