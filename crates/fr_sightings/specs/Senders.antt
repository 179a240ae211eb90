-- What the sightings of a log tell of a node in a double cycle: where its clock was, by the first frame of each cycle on each
-- channel.
use Rattle.std.specs.Prelude.{ℕ, ◌+◌, ◌*◌, ◌/◌, ◌==◌, ◌&&◌, nat_lt, pos, Bool, List, ◌++◌, filter_map, Option, Some, None, if◌then◌else◌}
use Rattle.std.specs.List.{filter, find}
use Rattle.std.specs.Option.{option_and_then, option_map, option_to_list}
use Rattle.fr_base.specs.Rows.{channel_rank}
use Rattle.fr_base.specs.declared.channel.Channel.{Channel}
use Rattle.fr_base.specs.declared.channel.Channel.TheVariants.{A, B}
use Rattle.fr_cluster.specs.Values.{Values}
use Rattle.fr_cluster.specs.declared.nodes.NodeSpec.{NodeSpec}
use Rattle.fr_time.specs.Cycles.{double_cycle_of}
use Rattle.fr_time.specs.Slots.{action_point_of}
use Rattle.fr_log.specs.View.{LogView, delay_limits_of, is_arbitrary_in, jitter_of}
use Rattle.fr_log.specs.declared.rows.DelayLimits.{DelayLimits}
use Rattle.fr_course.specs.Readings.{meet_all}
use Rattle.fr_course.specs.declared.intervals.Interval.{Interval}
use Rattle.fr_course.specs.Scales.{Scale}
use Rattle.fr_course.specs.Course.{course_from, is_there, span_of, stamped}
use Rattle.fr_course.specs.declared.courses.Course.{Course}
use Rattle.fr_course.specs.declared.stamps.Delays.{Delays}
use Rattle.fr_course.specs.declared.stamps.Observer.{Observer}
use Rattle.fr_sightings.specs.declared.sender.Sender.{Sender}
use Rattle.fr_sightings.specs.declared.sighting.Sighting.{Sighting}

-- ---- sightings

-- the double cycle of one, as its number in the log
abbrev pub double_of : Sighting → ℕ
double_of s = double_cycle_of s.number

-- those of a double cycle, in their order
abbrev pub is_in : ℕ → Sighting → Bool
is_in double s = double_of s == double

abbrev pub sightings_in : List Sighting → ℕ → List Sighting
sightings_in seen double = filter (is_in double) seen

-- one is of a double cycle before another
abbrev pub is_of_earlier : ℕ → Sighting → Bool
is_of_earlier double s = nat_lt (double_of s) double

-- whether one is that of a node on a channel in a cycle
abbrev pub is_sent_in : ℕ → Channel → ℕ → Sighting → Bool
is_sent_in node ch cycle s = (s.node == node) && (channel_rank s.channel == channel_rank ch) && (s.number == cycle)

-- the stamp of the first such one
unfoldable pub first_stamp : List Sighting → ℕ → Channel → ℕ → Option ℕ
first_stamp seen node ch cycle = option_map (λ s. s.stamp) (find (is_sent_in node ch cycle) seen)

-- ---- intervals

-- the observer's clock
abbrev pub observer_of : LogView → Observer
observer_of l = record { unit = l.unit; drift = l.drift; error = l.error }

-- the delays of a node's frames on a channel to it, where the log limits them
abbrev pub delays_by : Option DelayLimits → Option ℕ → Option Delays
delays_by None jitter = None
delays_by (Some limits) None = None
delays_by (Some limits) (Some jitter) = Some (record { least = limits.low; most = limits.high; jitter = jitter })

unfoldable pub delays_in : LogView → ℕ → Channel → Option Delays
delays_in l node ch = delays_by (delay_limits_of l node ch) (jitter_of l node ch)

-- where the action point of a node in a cycle can lie by its frame on a channel, where it was seen there
abbrev pub box_by : Observer → Option Delays → Option ℕ → Option Interval
box_by observer None stamp = None
box_by observer (Some delays) None = None
box_by observer (Some delays) (Some stamp) = Some (stamped observer delays (pos stamp))

abbrev pub box_on : LogView → List Sighting → ℕ → ℕ → Channel → Option Interval
box_on l seen node cycle ch = box_by (observer_of l) (delays_in l node ch) (first_stamp seen node ch cycle)

-- how much later than that of one cycle that of another lies, by frames on a channel
abbrev pub span_by : Observer → Option Delays → Option ℕ → Option ℕ → Option Interval
span_by observer None stamp later = None
span_by observer (Some delays) None later = None
span_by observer (Some delays) (Some stamp) None = None
span_by observer (Some delays) (Some stamp) (Some later) = Some (span_of observer delays (pos stamp) (pos later))

abbrev pub span_on : LogView → List Sighting → List Sighting → ℕ → ℕ → ℕ → Channel → Option Interval
span_on l seen later_seen node cycle later ch =
    span_by (observer_of l) (delays_in l node ch) (first_stamp seen node ch cycle) (first_stamp later_seen node ch later)

-- by both channels
abbrev pub on_both_channels : Option Interval → Option Interval → Option Interval
on_both_channels on_a on_b = meet_all (option_to_list on_a ++ option_to_list on_b)

unfoldable pub seen_box : LogView → List Sighting → ℕ → ℕ → Option Interval
seen_box l seen node cycle = on_both_channels (box_on l seen node cycle A) (box_on l seen node cycle B)

unfoldable pub seen_span : LogView → List Sighting → List Sighting → ℕ → ℕ → ℕ → Option Interval
seen_span l seen later_seen node cycle later =
    on_both_channels (span_on l seen later_seen node cycle later A) (span_on l seen later_seen node cycle later B)

-- ---- courses

-- the course of a node that sends in a slot, by the sightings of a double cycle
unfoldable pub course_in : Scale → Values → LogView → List Sighting → ℕ → ℕ → ℕ → Option Course
course_in scale p l seen double node slot =
    course_from scale (pos (action_point_of p slot)) (seen_box l seen node (2 * double)) (seen_box l seen node (2 * double + 1))
    (seen_span l seen seen node (2 * double) (2 * double + 1))

-- one of which no interval is empty
abbrev pub if_there : Option Course → Option Course
if_there None = None
if_there (Some course) = if is_there course then Some course else None

-- ---- senders

-- a node with its course in a double cycle, that in the next one if it has one there, and how far the action point of the next
-- even cycle lies behind that of the odd one, if it was seen on one channel in both
abbrev pub sender_on : LogView → List Sighting → List Sighting → ℕ → ℕ → Option Course → Course → Sender
sender_on l here next double node onward course =
    record {
      node = node;
      course = course;
      next = onward;
      onward = seen_span l here next node (2 * double + 1) (2 * double + 2);
    }

abbrev pub seen_sender_by : Scale → Values → LogView → List Sighting → List Sighting → ℕ → ℕ → ℕ → Option Sender
seen_sender_by scale p l here next double node slot =
    option_map (sender_on l here next double node (if_there (course_in scale p l next (double + 1) node slot)))
    (if_there (course_in scale p l here double node slot))

-- the slot in which a correct node sends sync frames
abbrev pub own_slot : LogView → NodeSpec → Option ℕ
own_slot l node = if is_arbitrary_in l node.id then None else node.key

unfoldable pub seen_sender : Scale → Values → LogView → List Sighting → List Sighting → ℕ → NodeSpec → Option Sender
seen_sender scale p l here next double node = option_and_then (seen_sender_by scale p l here next double node.id) (own_slot l node)

-- the senders of a double cycle, in the order of the parameters, by its sightings and those of the next one
unfoldable pub seen_senders : Scale → Values → LogView → List Sighting → List Sighting → ℕ → List Sender
seen_senders scale p l here next double = filter_map (seen_sender scale p l here next double) p.nodes
