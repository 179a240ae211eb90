-- What a log tells of a cluster's clocks, as a text: records of eight fields. Skews and the precision are in ticks, lengths in
-- ticks of the observer's clock, offset terms in microticks; a number that is not known is a dash.
use Rattle.std.specs.Prelude.{ℕ, ◌+◌, ◌-◌, ◌*◌, ℤ, int_le, int_lt, List, [], ◌∷◌, ◌++◌, codes, length, map, Option, Some, None, if◌then◌else◌}
use Rattle.std.specs.Fmt.{decimal, signed_decimal}
use Rattle.std.specs.List.{flat_map, range_with_len, slice_get}
use Rattle.std.specs.Option.{option_map}
use Rattle.fr_cluster.specs.Values.{Values}
use Rattle.fr_text.specs.Pieces.{line}
use Rattle.fr_log.specs.View.{LogView}
use Rattle.fr_course.specs.declared.intervals.Interval.{Interval}
use Rattle.fr_course.specs.Scales.{Scale}
use Rattle.fr_course.specs.declared.courses.Course.{Course}
use Rattle.fr_course.specs.Spread.{least_even_skew, least_odd_skew, most_even_skew, most_odd_skew}
use Rattle.fr_course.specs.Terms.{offset_seen}
use Rattle.fr_sightings.specs.Senders.{double_of, seen_senders, sightings_in}
use Rattle.fr_observe.specs.declared.says.Says.{Says}
use Rattle.fr_observe.specs.declared.says.Says.TheVariants.{Over, Within, Open}
use Rattle.fr_sightings.specs.declared.sender.Sender.{Sender}
use Rattle.fr_sightings.specs.declared.sighting.Sighting.{Sighting}

-- ---- fields

-- a number, if it is known
abbrev pub known : Option ℤ → List ℕ
known None = codes "-"
known (Some number) = signed_decimal number

abbrev pub known_count : Option ℕ → List ℕ
known_count None = codes "-"
known_count (Some number) = decimal number

-- a record: a word, and fields with a comma before each
abbrev pub row : List ℕ → List (List ℕ) → List ℕ
row text [] = line text
row text (field ∷ fields) = row (text ++ codes "," ++ field) fields

-- ---- the skew of a cycle

-- what its limits say: that it is above the precision, that it is within it, or neither
abbrev pub says_up_to : ℤ → Option ℤ → Says
says_up_to precision None = Open
says_up_to precision (Some high) = if int_le high precision then Within else Open

abbrev pub says_of : ℤ → ℤ → Option ℤ → Says
says_of precision low high = if int_lt precision low then Over else says_up_to precision high

abbrev pub says_text : Says → List ℕ
says_text Over = codes "over"
says_text Within = codes "within"
says_text Open = codes "open"

-- the courses of senders, and those of the next double cycle, where each has one there
abbrev pub courses_of : List Sender → List Course
courses_of senders = map (λ s. s.course) senders

abbrev pub all_there : List (Option Course) → Option (List Course)
all_there [] = Some []
all_there (None ∷ others) = None
all_there (Some course ∷ others) = option_map (λ rest. course ∷ rest) (all_there others)

abbrev pub next_courses : List Sender → Option (List Course)
next_courses senders = all_there (map (λ s. s.next) senders)

-- of no sender at all nothing limits the skew
abbrev pub with_senders : List Sender → Option ℤ → Option ℤ
with_senders [] high = None
with_senders (sender ∷ senders) high = high

unfoldable pub even_low : Scale → List Sender → ℤ
even_low scale senders = least_even_skew scale (courses_of senders)

unfoldable pub even_high : Scale → List Sender → Option ℤ
even_high scale senders = with_senders senders (Some (most_even_skew scale (courses_of senders)))

unfoldable pub odd_low : Scale → List Sender → ℤ
odd_low scale senders = least_odd_skew scale (courses_of senders)

unfoldable pub odd_high : Scale → List Sender → Option ℤ
odd_high scale senders = with_senders senders (option_map (most_odd_skew scale (courses_of senders)) (next_courses senders))

-- ---- rows of a double cycle

-- a cycle: how many nodes sent, the limits of their skew, and what these say
unfoldable pub cycle_row : ℤ → ℕ → ℕ → ℤ → Option ℤ → List ℕ
cycle_row precision cycle senders low high =
    row (codes "cycle")
    (decimal cycle ∷ decimal senders ∷ signed_decimal low ∷ known high ∷ says_text (says_of precision low high) ∷ [] ∷ [] ∷ [])

-- both cycles of a double cycle
unfoldable pub cycles_text : ℤ → Scale → ℕ → List Sender → List ℕ
cycles_text precision scale double senders =
    cycle_row precision (2 * double) (length senders) (even_low scale senders) (even_high scale senders)
    ++ cycle_row precision (2 * double + 1) (length senders) (odd_low scale senders) (odd_high scale senders)

-- a sender: the limits of the length of its cycles and, where it is one of the next double cycle too, of its offset term
unfoldable pub terms_of : Scale → Sender → Option Interval
terms_of scale s = option_map (λ next. offset_seen scale s.course next s.onward) s.next

unfoldable pub node_row : Scale → ℕ → Sender → List ℕ
node_row scale double s =
    row (codes "node")
    (
    decimal double ∷ decimal s.node ∷ signed_decimal s.course.length.low ∷ signed_decimal s.course.length.high
    ∷ known (option_map (λ term. term.low) (terms_of scale s)) ∷ known (option_map (λ term. term.high) (terms_of scale s))
    ∷ [] ∷ []
    )

-- all of them
unfoldable pub double_rows : ℤ → Scale → ℕ → List Sender → List ℕ
double_rows precision scale double senders =
    cycles_text precision scale double senders ++ flat_map (node_row scale double) senders

-- ---- what both cycles of a double cycle say

unfoldable pub both_say : ℤ → Scale → List Sender → List Says
both_say precision scale senders =
    says_of precision (even_low scale senders) (even_high scale senders)
    ∷ says_of precision (odd_low scale senders) (odd_high scale senders)
    ∷ []

-- ---- the log

-- the double cycles from that of the first sighting to that of the last
abbrev pub doubles_between : Option Sighting → Option Sighting → List ℕ
doubles_between None last = []
doubles_between (Some first) None = []
doubles_between (Some first) (Some last) = range_with_len (double_of first) (double_of last + 1 - double_of first)

unfoldable pub seen_doubles : List Sighting → List ℕ
seen_doubles seen = doubles_between (slice_get seen 0) (slice_get seen (length seen - 1))

-- ---- the text

-- the senders of one by the sightings of a log
unfoldable pub senders_of : Scale → Values → LogView → List Sighting → ℕ → List Sender
senders_of scale p l seen double =
    seen_senders scale p l (sightings_in seen double) (sightings_in seen (double + 1)) double

-- the precision, and what it and double cycles are judged by: how far delays flutter, in ticks, and how many senders a node may miss
abbrev pub precision_row : ℤ → ℕ → ℕ → List ℕ
precision_row precision flutter lost =
    row (codes "precision") (signed_decimal precision ∷ decimal flutter ∷ decimal lost ∷ [] ∷ [] ∷ [] ∷ [] ∷ [])
