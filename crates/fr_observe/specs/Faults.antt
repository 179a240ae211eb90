-- Contradictions of a log: what no lawful run can have given of which the log is seen, with oscillators within what is stated;
-- and what none can have given that is as the log states, in a double cycle that is judged.
use Rattle.std.specs.Prelude.{◌≡◌, ◌≤◌, ℕ, ◌+◌, ◌-◌, ◌*◌, ◌==◌, ◌&&◌, ◌||◌, not, nat_lt, ℤ, pos, neg_ℤ, ◌+ℤ◌, ◌-ℤ◌, int_lt, Bool, true, false, List, [], ◌∷◌, ◌++◌, codes, length, map, filter_map, count_by, Option, Some, None, is_some, unwrap_or, if◌then◌else◌}
use Rattle.std.specs.Fmt.{decimal, signed_decimal}
use Rattle.std.specs.List.{filter, flat_map, list_any}
use Rattle.std.specs.Option.{option_and_then, option_map, option_to_list}
use Rattle.fr_base.specs.Channels.{letter}
use Rattle.fr_base.specs.declared.channel.Channel.{Channel}
use Rattle.fr_base.specs.declared.channel.Channel.TheVariants as channel
use Rattle.fr_bound.specs.Bounds.{longest_micro, shortest_micro}
use Rattle.fr_cluster.specs.Questions.{has_channel, node_of}
use Rattle.fr_cluster.specs.Values.{Values, amount}
use Rattle.fr_cluster.specs.declared.names.ParamName.TheVariants as name
use Rattle.fr_cluster.specs.declared.nodes.NodeSpec.{NodeSpec}
use Rattle.fr_log.specs.View.{LogView, is_arbitrary_in}
use Rattle.fr_text.specs.Pieces.{room_of_all, spelling}
use Rattle.fr_text.specs.declared.piece.Piece.{Piece}
use Rattle.fr_course.specs.Computed.{length_ticks, measuring_of, offset_computed, rate_computed}
use Rattle.fr_course.specs.Course.{allowed, apart_by, is_empty, seen_apart}
use Rattle.fr_course.specs.Terms.{rate_step_seen}
use Rattle.fr_course.specs.declared.courses.Course.{Course}
use Rattle.fr_course.specs.declared.intervals.Interval.{Interval}
use Rattle.fr_course.specs.Scales.{Scale}
use Rattle.fr_sightings.specs.Senders.{first_stamp, own_slot, seen_box, seen_span}
use Rattle.fr_sightings.specs.declared.sender.Sender.{Sender}
use Rattle.fr_sightings.specs.declared.sighting.Sighting.{Sighting}
use Rattle.fr_observe.specs.Observing.{courses_of, known, known_count, row, terms_of}
use Rattle.fr_observe.specs.declared.fault.Fault.{Fault}
use Rattle.fr_observe.specs.declared.fault.Fault.TheVariants as fault
use Rattle.fr_observe.specs.declared.fault.LogSpan.{LogSpan}
use Rattle.fr_observe.specs.declared.fault.Range.{Range}
use Rattle.fr_observe.specs.declared.apart_faults.Apart.{Apart}
use Rattle.fr_observe.specs.declared.apart_faults.Apart.TheVariants as apart
use Rattle.fr_observe.specs.declared.term.Term.{Term}
use Rattle.fr_observe.specs.declared.term.Term.TheVariants as term

-- the numbers from one limit to the other
abbrev pub range_of : Interval → Range
range_of limits = record { low = limits.low; high = limits.high }

-- whether one is a contradiction only of runs that are as the log states
abbrev pub asks_judged : Fault → Bool
asks_judged (fault.Channels cycle node point) = false
asks_judged (fault.Limit cycle node apart allowed) = false
asks_judged (fault.Correction cycle node seen allowed) = false
asks_judged (fault.Twice cycle node ch stamp first) = false
asks_judged (fault.Cycle cycle node ch stamp count) = false
asks_judged (fault.Stranger cycle node ch stamp slot) = false
asks_judged (fault.Form cycle node ch stamp slot) = false
asks_judged (fault.Skew cycle low high most) = true
asks_judged (fault.Start cycle apart most) = true
asks_judged (fault.Lengths cycle apart most) = true
asks_judged (fault.Length cycle node long allowed) = true
asks_judged (fault.Offset cycle node seen due) = true
asks_judged (fault.Rate cycle node step due) = true
asks_judged (fault.Missing cycle node ch) = true

-- whether one is a contradiction only where each whole frame in the slot of a node is one that it sends
abbrev pub asks_own_slots : Fault → Bool
asks_own_slots (fault.Channels cycle node point) = false
asks_own_slots (fault.Limit cycle node apart allowed) = false
asks_own_slots (fault.Correction cycle node seen allowed) = false
asks_own_slots (fault.Twice cycle node ch stamp first) = false
asks_own_slots (fault.Cycle cycle node ch stamp count) = false
asks_own_slots (fault.Stranger cycle node ch stamp slot) = true
asks_own_slots (fault.Form cycle node ch stamp slot) = true
asks_own_slots (fault.Skew cycle low high most) = false
asks_own_slots (fault.Start cycle apart most) = false
asks_own_slots (fault.Lengths cycle apart most) = false
asks_own_slots (fault.Length cycle node long allowed) = false
asks_own_slots (fault.Offset cycle node seen due) = false
asks_own_slots (fault.Rate cycle node step due) = false
asks_own_slots (fault.Missing cycle node ch) = false

-- whether there are none, and the first of some
abbrev pub is_nil : List Fault → Bool
is_nil [] = true
is_nil (fault ∷ faults) = false

abbrev pub first_of_faults : List Fault → Option Fault
first_of_faults [] = None
first_of_faults (fault ∷ faults) = Some fault

-- ---- of a node, whatever the run

-- by its frames on both channels its action point in a cycle lies nowhere
abbrev pub box_fault : ℕ → ℕ → Option Interval → Option Fault
box_fault cycle node None = None
box_fault cycle node (Some box) =
    if is_empty box then Some (fault.Channels cycle node (range_of box)) else None

-- both of its action points in a double cycle lie somewhere, but so far apart as no cycle is long
abbrev pub limit_with : Scale → ℕ → ℕ → Interval → Fault
limit_with scale cycle node apart = fault.Limit cycle node (range_of apart) (range_of (allowed scale))

abbrev pub limit_fault : Scale → ℕ → ℕ → Option Interval → Option Interval → Option Interval → Option Fault
limit_fault scale cycle node None odd span = None
limit_fault scale cycle node (Some even) None span = None
limit_fault scale cycle node (Some even) (Some odd) span =
    if is_empty even || is_empty odd then None
    else if is_empty (apart_by scale even odd span)
    then Some (limit_with scale cycle node (seen_apart even odd span))
    else None

unfoldable pub clock_faults : Scale → LogView → List Sighting → ℕ → ℕ → List Fault
clock_faults scale l here double node =
    option_to_list (box_fault (2 * double) node (seen_box l here node (2 * double)))
    ++ option_to_list (box_fault (2 * double + 1) node (seen_box l here node (2 * double + 1)))
    ++ option_to_list
    (
    limit_fault scale (2 * double) node (seen_box l here node (2 * double)) (seen_box l here node (2 * double + 1))
    (seen_span l here here node (2 * double) (2 * double + 1))
    )

-- of a correct node with a key slot
abbrev pub node_faults : Scale → LogView → List Sighting → ℕ → NodeSpec → List Fault
node_faults scale l here double node = if is_some (own_slot l node) then clock_faults scale l here double node.id else []

-- the offset term that was seen is none that the limits allow
abbrev pub allowed_terms : Values → Range
allowed_terms p = record { low = neg_ℤ p.offset_limit; high = p.offset_limit }

abbrev pub term_fault : Values → ℕ → ℕ → Interval → Option Fault
term_fault p cycle node seen =
    if is_empty seen || int_lt p.offset_limit seen.low || int_lt seen.high (neg_ℤ p.offset_limit)
    then Some (fault.Correction cycle node (range_of seen) (allowed_terms p))
    else None

abbrev pub correction_fault : Values → Scale → ℕ → Sender → Option Fault
correction_fault p scale double s = option_and_then (term_fault p (2 * double + 1) s.node) (terms_of scale s)

-- a frame is there twice, with two stamps
abbrev pub twice_with : Sighting → ℕ → Fault
twice_with s first = fault.Twice s.number s.node s.channel (pos s.stamp) (pos first)

abbrev pub twice_by : Sighting → Option ℕ → Option Fault
twice_by s None = None
twice_by s (Some first) = if first == s.stamp then None else Some (twice_with s first)

abbrev pub twice_fault : List Sighting → Sighting → Option Fault
twice_fault here s = twice_by s (first_stamp here s.node s.channel s.number)

-- a sighting has the stamp of the first one of its node on its channel in its cycle
abbrev pub IsFirst : List Sighting → Sighting → Type 0
IsFirst here s = first_stamp here s.node s.channel s.number ≡ Some s.stamp

-- a frame comes at another time than its cycle count says; the cycle is that of the sighting before it
abbrev pub cycle_fault : Sighting → Fault
cycle_fault s = fault.Cycle s.number s.node s.channel (pos s.stamp) s.count

-- a frame is in the slot of a node that does not send it: of another form than the node's frames in that slot, or on a channel that
-- the node does not have. The cycle is that of the sighting before it
abbrev pub irregular_fault : Values → Sighting → Fault
irregular_fault p s =
    if has_channel (node_of p s.node) s.channel
    then fault.Form s.number s.node s.channel (pos s.stamp) s.slot
    else fault.Stranger s.number s.node s.channel (pos s.stamp) s.slot

-- what contradicts any run that sends each whole frame of the log in the slot of a node
unfoldable pub slot_faults : Values → List Sighting → List Fault
slot_faults p frames = map (irregular_fault p) frames

-- what contradicts any run: `here` are the sightings of the double cycle, `late` its untimely frames, `senders` its senders
unfoldable pub own_faults : Values → Scale → LogView → List Sighting → List Sighting → ℕ → List Sender → List Fault
own_faults p scale l here late double senders =
    flat_map (node_faults scale l here double) p.nodes
    ++ filter_map (correction_fault p scale double) senders
    ++ filter_map (twice_fault here) here
    ++ map cycle_fault late

-- ---- in a double cycle that is judged

-- a node is arbitrary, or was seen in both cycles
abbrev pub is_seen_whole : LogView → List Sighting → ℕ → NodeSpec → Bool
is_seen_whole l here double node =
    is_arbitrary_in l node.id
    || (
    is_some node.key && is_some (seen_box l here node.id (2 * double)) && is_some (seen_box l here node.id (2 * double + 1))
    )

-- the ticks of a cycle at the shortest and at the longest microtick
abbrev pub shortest_cycle_of : Values → ℤ
shortest_cycle_of p = pos (amount p name.pMicroPerCycle * shortest_micro p)

abbrev pub longest_cycle_of : Values → ℤ
longest_cycle_of p = pos (amount p name.pMicroPerCycle * longest_micro p)

-- by how much delays flutter between both cycles of a double cycle: as the log says, or no more than delays that keep within what the
-- parameters say of them
abbrev pub stated_flutter : Values → LogView → ℕ
stated_flutter p l = unwrap_or l.flutter (2 * amount p name.xDelayError)

-- the skew was certainly greater than a bound
abbrev pub skew_fault : ℤ → ℕ → ℤ → Option ℤ → Option Fault
skew_fault bound cycle low high = if int_lt bound low then Some (fault.Skew cycle low high bound) else None

-- starts, or lengths, certainly lay further apart than a bound
abbrev pub beyond_with : Apart → ℕ → ℤ → Interval → Fault
beyond_with apart.Starts cycle bound seen = fault.Start cycle (range_of seen) bound
beyond_with apart.Lengths cycle bound seen = fault.Lengths cycle (range_of seen) bound

abbrev pub beyond_fault : Apart → ℕ → ℤ → Interval → Option Fault
beyond_fault what cycle bound seen = if int_lt bound seen.low then Some (beyond_with what cycle bound seen) else None

-- a length is certainly none of an oscillator within its bounds
abbrev pub length_fault_by : ℕ → ℕ → ℤ → ℤ → Interval → Option Fault
length_fault_by cycle node least most long =
    if int_lt most long.low || int_lt long.high least
    then Some (fault.Length cycle node (range_of long) (record { low = least; high = most }))
    else None

-- a length is certainly none of an oscillator within its bounds that walked so far beyond its range
abbrev pub length_beyond : Values → Scale → ℕ → ℕ → Sender → Option Fault
length_beyond p scale beyond double s =
    length_fault_by (2 * double) s.node (shortest_cycle_of p -ℤ pos beyond) (longest_cycle_of p +ℤ pos beyond)
    (length_ticks scale s.course)

-- what was seen of a term, and what the node must have computed, have no number in common
abbrev pub unlike_with : Term → ℕ → ℕ → Interval → Interval → Fault
unlike_with term.Offset cycle node seen computed = fault.Offset cycle node (range_of seen) (range_of computed)
unlike_with term.Rate cycle node seen computed = fault.Rate cycle node (range_of seen) (range_of computed)

abbrev pub unlike_fault : Term → ℕ → ℕ → Option Interval → Option Interval → Option Fault
unlike_fault what cycle node None computed = None
unlike_fault what cycle node (Some seen) None = None
unlike_fault what cycle node (Some seen) (Some computed) =
    if int_lt seen.high computed.low || int_lt computed.high seen.low
    then Some (unlike_with what cycle node seen computed)
    else None

-- the courses of the other senders; how many further sync nodes may have been heard
abbrev pub other_courses : List Sender → ℕ → List Course
other_courses senders node = courses_of (filter (λ s. not (s.node == node)) senders)

abbrev pub further_of : Values → List Sender → ℕ
further_of p senders = count_by (λ node. is_some node.key) p.nodes - length senders

-- which offset term a sender must have computed, and by how much its rate term must have grown, where it missed at most so many of the
-- others
abbrev pub offset_due : Values → LogView → Scale → List Sender → ℕ → Sender → Option Interval
offset_due p l scale senders lost s =
    offset_computed scale (measuring_of p (stated_flutter p l)) s.course (other_courses senders s.node) (further_of p senders) lost

abbrev pub rate_due : Values → LogView → Scale → List Sender → ℕ → Sender → Option Interval
rate_due p l scale senders lost s =
    rate_computed scale (measuring_of p (stated_flutter p l)) s.course (other_courses senders s.node) (further_of p senders) lost

-- neither was seen so
abbrev pub offset_fault : Values → LogView → Scale → ℕ → List Sender → ℕ → Sender → Option Fault
offset_fault p l scale double senders lost s =
    unlike_fault term.Offset (2 * double + 1) s.node (terms_of scale s) (offset_due p l scale senders lost s)

abbrev pub rate_fault : Values → LogView → Scale → ℕ → List Sender → ℕ → Sender → Option Fault
rate_fault p l scale double senders lost s =
    unlike_fault term.Rate (2 * double + 1) s.node (option_map (rate_step_seen scale s.course) s.next) (rate_due p l scale senders lost s)

-- no frame of a node is there that must have been: it sent in the double cycle before, and the observer missed none between the first
-- and the last sighting of the log
abbrev pub is_inside : LogSpan → ℕ → Bool
is_inside span cycle = nat_lt span.first cycle && nat_lt cycle span.last

abbrev pub missing_on : LogSpan → List Sighting → ℕ → ℕ → Channel → Option Fault
missing_on span here cycle node ch =
    if is_inside span cycle && not (is_some (first_stamp here node ch cycle)) then Some (fault.Missing cycle node ch) else None

-- on a channel that the node has
abbrev pub missing_by : LogSpan → List Sighting → ℕ → NodeSpec → Channel → Option Fault
missing_by span here cycle node ch = if has_channel (Some node) ch then missing_on span here cycle node.id ch else None

abbrev pub missing_in : LogSpan → List Sighting → ℕ → NodeSpec → List Fault
missing_in span here cycle node =
    option_to_list (missing_by span here cycle node channel.A) ++ option_to_list (missing_by span here cycle node channel.B)

-- on each channel that the node has, in the even and then in the odd cycle
abbrev pub missing_of : LogSpan → List Sighting → ℕ → NodeSpec → List Fault
missing_of span here double node = missing_in span here (2 * double) node ++ missing_in span here (2 * double + 1) node

abbrev pub was_seen : List Sighting → ℕ → Bool
was_seen before node = list_any (λ s. s.node == node) before

-- `before` are the sightings of the double cycle before
abbrev pub node_missing : LogView → LogSpan → List Sighting → List Sighting → ℕ → NodeSpec → List Fault
node_missing l span before here double node =
    if is_some (own_slot l node) && was_seen before node.id then missing_of span here double node else []

abbrev pub missing_frames : Values → LogView → LogSpan → List Sighting → List Sighting → ℕ → List Fault
missing_frames p l span before here double = if l.whole then flat_map (node_missing l span before here double) p.nodes else []

-- ---- as records

abbrev pub fault_cycle : Fault → ℕ
fault_cycle (fault.Channels cycle node point) = cycle
fault_cycle (fault.Limit cycle node apart allowed) = cycle
fault_cycle (fault.Correction cycle node seen allowed) = cycle
fault_cycle (fault.Twice cycle node ch stamp first) = cycle
fault_cycle (fault.Cycle cycle node ch stamp count) = cycle
fault_cycle (fault.Stranger cycle node ch stamp slot) = cycle
fault_cycle (fault.Form cycle node ch stamp slot) = cycle
fault_cycle (fault.Skew cycle low high most) = cycle
fault_cycle (fault.Start cycle apart most) = cycle
fault_cycle (fault.Lengths cycle apart most) = cycle
fault_cycle (fault.Length cycle node long allowed) = cycle
fault_cycle (fault.Offset cycle node seen due) = cycle
fault_cycle (fault.Rate cycle node step due) = cycle
fault_cycle (fault.Missing cycle node ch) = cycle

-- the node, if it is of one
abbrev pub fault_node : Fault → Option ℕ
fault_node (fault.Channels cycle node point) = Some node
fault_node (fault.Limit cycle node apart allowed) = Some node
fault_node (fault.Correction cycle node seen allowed) = Some node
fault_node (fault.Twice cycle node ch stamp first) = Some node
fault_node (fault.Cycle cycle node ch stamp count) = Some node
fault_node (fault.Stranger cycle node ch stamp slot) = Some node
fault_node (fault.Form cycle node ch stamp slot) = Some node
fault_node (fault.Skew cycle low high most) = None
fault_node (fault.Start cycle apart most) = None
fault_node (fault.Lengths cycle apart most) = None
fault_node (fault.Length cycle node long allowed) = Some node
fault_node (fault.Offset cycle node seen due) = Some node
fault_node (fault.Rate cycle node step due) = Some node
fault_node (fault.Missing cycle node ch) = Some node

abbrev pub term_word : Term → List ℕ
term_word term.Offset = codes "offset"
term_word term.Rate = codes "rate"

abbrev pub fault_word : Fault → List ℕ
fault_word (fault.Channels cycle node point) = codes "channels"
fault_word (fault.Limit cycle node apart allowed) = codes "limit"
fault_word (fault.Correction cycle node seen allowed) = codes "correction"
fault_word (fault.Twice cycle node ch stamp first) = codes "twice"
fault_word (fault.Cycle cycle node ch stamp count) = codes "cycle"
fault_word (fault.Stranger cycle node ch stamp slot) = codes "stranger"
fault_word (fault.Form cycle node ch stamp slot) = codes "form"
fault_word (fault.Skew cycle low high most) = codes "skew"
fault_word (fault.Start cycle apart most) = codes "start"
fault_word (fault.Lengths cycle apart most) = codes "lengths"
fault_word (fault.Length cycle node long allowed) = codes "length"
fault_word (fault.Offset cycle node seen due) = term_word term.Offset
fault_word (fault.Rate cycle node step due) = term_word term.Rate
fault_word (fault.Missing cycle node ch) = codes "missing"

-- a range, and a frame by its channel and stamp
abbrev pub range_fields : Range → List (List ℕ)
range_fields range = signed_decimal range.low ∷ signed_decimal range.high ∷ []

abbrev pub stamp_fields : Channel → ℤ → List (List ℕ)
stamp_fields ch stamp = letter ch ∷ signed_decimal stamp ∷ []

-- what was seen, and what it is held against
abbrev pub seen_fields : Fault → List (List ℕ)
seen_fields (fault.Channels cycle node point) = range_fields point
seen_fields (fault.Limit cycle node apart allowed) = range_fields apart
seen_fields (fault.Correction cycle node seen allowed) = range_fields seen
seen_fields (fault.Twice cycle node ch stamp first) = stamp_fields ch stamp
seen_fields (fault.Cycle cycle node ch stamp count) = stamp_fields ch stamp
seen_fields (fault.Stranger cycle node ch stamp slot) = stamp_fields ch stamp
seen_fields (fault.Form cycle node ch stamp slot) = stamp_fields ch stamp
seen_fields (fault.Skew cycle low high most) = signed_decimal low ∷ known high ∷ []
seen_fields (fault.Start cycle apart most) = range_fields apart
seen_fields (fault.Lengths cycle apart most) = range_fields apart
seen_fields (fault.Length cycle node long allowed) = range_fields long
seen_fields (fault.Offset cycle node seen due) = range_fields seen
seen_fields (fault.Rate cycle node step due) = range_fields step
seen_fields (fault.Missing cycle node ch) = letter ch ∷ codes "-" ∷ []

abbrev pub against_fields : Fault → List (List ℕ)
against_fields (fault.Channels cycle node point) = codes "-" ∷ codes "-" ∷ []
against_fields (fault.Limit cycle node apart allowed) = range_fields allowed
against_fields (fault.Correction cycle node seen allowed) = range_fields allowed
against_fields (fault.Twice cycle node ch stamp first) = signed_decimal first ∷ codes "-" ∷ []
against_fields (fault.Cycle cycle node ch stamp count) = decimal count ∷ codes "-" ∷ []
against_fields (fault.Stranger cycle node ch stamp slot) = decimal slot ∷ codes "-" ∷ []
against_fields (fault.Form cycle node ch stamp slot) = decimal slot ∷ codes "-" ∷ []
against_fields (fault.Skew cycle low high most) = codes "-" ∷ signed_decimal most ∷ []
against_fields (fault.Start cycle apart most) = codes "-" ∷ signed_decimal most ∷ []
against_fields (fault.Lengths cycle apart most) = codes "-" ∷ signed_decimal most ∷ []
against_fields (fault.Length cycle node long allowed) = range_fields allowed
against_fields (fault.Offset cycle node seen due) = range_fields due
against_fields (fault.Rate cycle node step due) = range_fields due
against_fields (fault.Missing cycle node ch) = codes "-" ∷ codes "-" ∷ []

abbrev pub fault_fields : Fault → List (List ℕ)
fault_fields f = seen_fields f ++ against_fields f

-- pieces that are spelt as these fields of a row, in no more bytes than two numbers and their signs take
pub record AreSpelt (pieces : List Piece) (fields : List (List ℕ)) : Type 0 where
  pub spelt : map spelling pieces ≡ fields
  pub short : room_of_all pieces ≤ 42

unfoldable pub fault_row : Fault → List ℕ
fault_row f =
    row (codes "fault") (decimal (fault_cycle f) ∷ known_count (fault_node f) ∷ fault_word f ∷ fault_fields f)
