-- What the faults ask for that are told of double cycles as they stand, and of irregular frames.
use Rattle.std.proofs.Common.{◌≡◌, ℕ, ◌+◌, ◌*◌, Bool, true, false, Option, Some, None, ℤ, pos, List, [], ◌∷◌, ◌++◌, All, refl, subst}
use Rattle.std.specs.Prelude.{◌||◌, ◌&&◌, ◌+ℤ◌, ◌-ℤ◌, not, IfSome, filter_map, int_lt, is_some, if◌then◌else◌}
use Rattle.std.specs.List.{flat_map}
use Rattle.std.specs.Option.{option_map, option_to_list}
use Rattle.std.proofs.lemmas.List.Elements.{All-append, All-cons, All-nil}
use Rattle.fr_base.specs.declared.channel.Channel.{Channel}
use Rattle.fr_base.specs.declared.channel.Channel.TheVariants.{A, B}
use Rattle.fr_cluster.specs.Questions.{has_channel, node_of}
use Rattle.fr_cluster.specs.Values.{Values}
use Rattle.fr_cluster.specs.declared.nodes.NodeSpec.{NodeSpec}
use Rattle.fr_log.specs.View.{LogView}
use Rattle.fr_course.specs.Terms.{rate_step_seen}
use Rattle.fr_course.specs.declared.intervals.Interval.{Interval}
use Rattle.fr_course.specs.Scales.{Scale}
use Rattle.fr_bound.specs.Judged.{apart_through}
use Rattle.fr_bound.specs.declared.judging.Heard.{Heard}
use Rattle.fr_bound.specs.declared.judging.Known.{Known}
use Rattle.fr_judging.specs.Knowing.{judged_met, judged_skews, judged_terms, known_apart, known_missing, moving_faults, moving_heard, standing_faults, term_faults}
use Rattle.fr_observe.specs.Faults.{asks_own_slots, asks_judged, beyond_fault, beyond_with, irregular_fault, is_inside, length_beyond, length_fault_by, longest_cycle_of, missing_by, missing_frames, missing_in, missing_of, missing_on, node_missing, offset_fault, offset_due, range_of, rate_due, rate_fault, shortest_cycle_of, skew_fault, slot_faults, stated_flutter, unlike_fault, unlike_with, was_seen}
use Rattle.fr_judging.specs.declared.knowing.Standing.{Standing}
use Rattle.fr_observe.specs.Observing.{courses_of, even_high, even_low, odd_high, odd_low, terms_of}
use Rattle.fr_sightings.specs.Senders.{first_stamp, own_slot}
use Rattle.fr_sightings.specs.declared.sender.Sender.{Sender}
use Rattle.fr_sightings.specs.declared.sighting.Sighting.{Sighting}
use Rattle.fr_seen.proofs.SenderLaws.{all_given}
use Rattle.fr_observe.specs.declared.fault.Fault.{Fault}
use Rattle.fr_observe.specs.declared.fault.Fault.TheVariants.{Form, Length, Missing, Skew, Stranger}
use Rattle.fr_observe.specs.declared.apart_faults.Apart.{Apart}
use Rattle.fr_observe.specs.declared.apart_faults.Apart.TheVariants.{Lengths, Starts}
use Rattle.fr_observe.specs.declared.term.Term.{Term}
use Rattle.fr_observe.specs.declared.term.Term.TheVariants.{Offset, Rate}
use Rattle.fr_observe.specs.declared.fault.LogSpan.{LogSpan}
use Rattle.fr_course.specs.Computed.{length_ticks}
use Rattle.fr_course.specs.Spread.{lengths_apart, starts_apart}

abbrev pub AsksJudged : Fault → Type 0
AsksJudged fault = asks_judged fault ≡ true

-- where a test tells a fault, one that asks for runs as the log states
told_asks : (test : Bool) (fault : Fault) → AsksJudged fault → IfSome (if test then Some fault else None) AsksJudged
told_asks true fault asks = asks
told_asks false fault asks = tt

listed : (told : Option Fault) → IfSome told AsksJudged → All AsksJudged (option_to_list told)
listed None asks = All-nil AsksJudged
listed (Some fault) asks = All-cons AsksJudged fault [] asks (All-nil AsksJudged)

given : {X : Type 0} (f : X → Option Fault) (xs : List X) → ((x : X) → IfSome (f x) AsksJudged) → All AsksJudged (filter_map f xs)
given f xs each = all_given f AsksJudged xs (λ x among fault is. subst (λ o. IfSome o AsksJudged) is (each x))

flat : {X : Type 0} (f : X → List Fault) (xs : List X) → ((x : X) → All AsksJudged (f x)) → All AsksJudged (flat_map f xs)
flat f [] each = All-nil AsksJudged
flat f (x ∷ xs) each = All-append AsksJudged (f x) (flat_map f xs) (each x) (flat f xs each)

either : (test : Bool) (faults : List Fault) → All AsksJudged faults → All AsksJudged (if test then faults else [])
either true faults all = all
either false faults all = All-nil AsksJudged

unlike_with_asks : (what : Term) (cycle node : ℕ) (seen computed : Interval) → AsksJudged (unlike_with what cycle node seen computed)
unlike_with_asks Offset cycle node seen computed = refl
unlike_with_asks Rate cycle node seen computed = refl

unlike_asks : (what : Term) (cycle node : ℕ) (seen computed : Option Interval) → IfSome (unlike_fault what cycle node seen computed) AsksJudged
unlike_asks what cycle node None computed = tt
unlike_asks what cycle node (Some seen) None = tt
unlike_asks what cycle node (Some seen) (Some computed) =
    told_asks (int_lt seen.high computed.low || int_lt computed.high seen.low) (unlike_with what cycle node seen computed) (unlike_with_asks what cycle node seen computed)

beyond_with_asks : (what : Apart) (cycle : ℕ) (bound : ℤ) (seen : Interval) → AsksJudged (beyond_with what cycle bound seen)
beyond_with_asks Starts cycle bound seen = refl
beyond_with_asks Lengths cycle bound seen = refl

beyond_asks : (what : Apart) (cycle : ℕ) (bound : ℤ) (seen : Interval) → IfSome (beyond_fault what cycle bound seen) AsksJudged
beyond_asks what cycle bound seen = told_asks (int_lt bound seen.low) (beyond_with what cycle bound seen) (beyond_with_asks what cycle bound seen)

length_asks : (cycle node : ℕ) (least most : ℤ) (long : Interval) → IfSome (length_fault_by cycle node least most long) AsksJudged
length_asks cycle node least most long =
    told_asks (int_lt most long.low || int_lt long.high least)
    (Length cycle node (range_of long) (record { low = least; high = most })) refl

missing_asks : (span : LogSpan) (here : List Sighting) (cycle : ℕ) (node : NodeSpec) (ch : Channel) → IfSome (missing_by span here cycle node ch) AsksJudged
missing_asks span here cycle node ch = by (has_channel (Some node) ch)
  where
    by : (test : Bool) → IfSome (if test then missing_on span here cycle node.id ch else None) AsksJudged
    by true = told_asks (is_inside span cycle && not (is_some (first_stamp here node.id ch cycle))) (Missing cycle node.id ch) refl
    by false = tt

missing_in_asks : (span : LogSpan) (here : List Sighting) (cycle : ℕ) (node : NodeSpec) → All AsksJudged (missing_in span here cycle node)
missing_in_asks span here cycle node =
    All-append AsksJudged (option_to_list (missing_by span here cycle node A)) (option_to_list (missing_by span here cycle node B))
    (listed (missing_by span here cycle node A) (missing_asks span here cycle node A)) (listed (missing_by span here cycle node B) (missing_asks span here cycle node B))

all_missing_asks : (p : Values) (l : LogView) (span : LogSpan) (before here : List Sighting) (double : ℕ) → All AsksJudged (missing_frames p l span before here double)
all_missing_asks p l span before here double =
    either l.whole (flat_map (node_missing l span before here double) p.nodes)
    (
    flat (node_missing l span before here double) p.nodes
    (λ node.
    either (is_some (own_slot l node) && was_seen before node.id) (missing_of span here double node)
    (All-append AsksJudged (missing_in span here (2 * double) node) (missing_in span here (2 * double + 1) node)
    (missing_in_asks span here (2 * double) node) (missing_in_asks span here (2 * double + 1) node)))
    )

-- ---- of double cycles as they stand

skew_asks : (precision : ℤ) (cycle : ℕ) (low : ℤ) (high : Option ℤ) → All AsksJudged (option_to_list (skew_fault precision cycle low high))
skew_asks precision cycle low high = listed (skew_fault precision cycle low high) (told_asks (int_lt precision low) (Skew cycle low high precision) refl)

judged_skews_ask : (p : Values) (l : LogView) (scale : Scale) (double : ℕ) (senders : List Sender) (what : Heard) (judged : Option Known) → All AsksJudged (judged_skews p l scale double senders what judged)
unfolding judged_skews
judged_skews_ask p l scale double senders what None = All-nil AsksJudged
judged_skews_ask p l scale double senders what (Some met) =
    let apart = pos (apart_through what p (stated_flutter p l) met) in
    let even = option_to_list (skew_fault apart (2 * double) (even_low scale senders) (even_high scale senders)) in
    let odd = option_to_list (skew_fault apart (2 * double + 1) (odd_low scale senders) (odd_high scale senders)) in
    All-append AsksJudged even odd (skew_asks apart (2 * double) (even_low scale senders) (even_high scale senders)) (skew_asks apart (2 * double + 1) (odd_low scale senders) (odd_high scale senders))

judged_terms_ask : (p : Values) (l : LogView) (scale : Scale) (double : ℕ) (senders : List Sender) (judged : Option Known) → All AsksJudged (judged_terms p l scale double senders judged)
unfolding judged_terms
judged_terms_ask p l scale double senders None = All-nil AsksJudged
judged_terms_ask p l scale double senders (Some met) =
    All-append AsksJudged (filter_map (offset_fault p l scale double senders l.lost) senders) (filter_map (rate_fault p l scale double senders l.lost) senders)
    (given (offset_fault p l scale double senders l.lost) senders
    (λ s. unlike_asks Offset (2 * double + 1) s.node (terms_of scale s) (offset_due p l scale senders l.lost s)))
    (given (rate_fault p l scale double senders l.lost) senders
    (λ s. unlike_asks Rate (2 * double + 1) s.node (option_map (rate_step_seen scale s.course) s.next) (rate_due p l scale senders l.lost s)))

known_apart_ask : (p : Values) (scale : Scale) (double : ℕ) (senders : List Sender) (known : Option Known) → All AsksJudged (known_apart p scale double senders known)
unfolding known_apart
known_apart_ask p scale double senders None = All-nil AsksJudged
known_apart_ask p scale double senders (Some known) =
    let start = option_to_list (beyond_fault Starts (2 * double) (pos known.spread.starts) (starts_apart scale (courses_of senders))) in
    let lengths = option_to_list (beyond_fault Lengths (2 * double) (pos known.spread.lengths) (lengths_apart scale (courses_of senders))) in
    let long = filter_map (length_beyond p scale known.beyond double) senders in
    let asks_start = listed (beyond_fault Starts (2 * double) (pos known.spread.starts) (starts_apart scale (courses_of senders))) (beyond_asks Starts (2 * double) (pos known.spread.starts) (starts_apart scale (courses_of senders))) in
    let asks_lengths = listed (beyond_fault Lengths (2 * double) (pos known.spread.lengths) (lengths_apart scale (courses_of senders))) (beyond_asks Lengths (2 * double) (pos known.spread.lengths) (lengths_apart scale (courses_of senders))) in
    let two = All-append AsksJudged start lengths asks_start asks_lengths in
    All-append AsksJudged (start ++ lengths) long two
    (given (length_beyond p scale known.beyond double) senders
    (λ s. length_asks (2 * double) s.node (shortest_cycle_of p -ℤ pos known.beyond) (longest_cycle_of p +ℤ pos known.beyond) (length_ticks scale s.course)))

known_missing_ask : (p : Values) (l : LogView) (span : LogSpan) (before here : List Sighting) (double : ℕ) (known : Option Known) → All AsksJudged (known_missing p l span before here double known)
unfolding known_missing
known_missing_ask p l span before here double None = All-nil AsksJudged
known_missing_ask p l span before here double (Some known) = all_missing_asks p l span before here double

-- each fault that is told of one asks for runs as the log states
pub standing_faults_ask : (p : Values) (scale : Scale) (l : LogView) (span : LogSpan) (before here : List Sighting) (double : ℕ) (senders : List Sender) (st : Standing)
    → All AsksJudged (standing_faults p scale l span before here double senders st)
unfolding standing_faults moving_faults term_faults
standing_faults_ask p scale l span before here double senders st =
    let terms = judged_terms p l scale double senders (judged_met st) in
    let missing = known_missing p l span before here double st.known in
    All-append AsksJudged (moving_heard p l scale double senders st st.heard) (terms ++ missing) (moving st.heard)
    (All-append AsksJudged terms missing (judged_terms_ask p l scale double senders (judged_met st)) (known_missing_ask p l span before here double st.known))
  where
    moving : (heard : Option Heard) → All AsksJudged (moving_heard p l scale double senders st heard)
    moving None = All-nil AsksJudged
    moving (Some what) =
        All-append AsksJudged (judged_skews p l scale double senders what (judged_met st)) (known_apart p scale double senders st.known)
        (judged_skews_ask p l scale double senders what (judged_met st)) (known_apart_ask p scale double senders st.known)

-- ---- irregular frames

abbrev pub AsksOwnSlots : Fault → Type 0
AsksOwnSlots fault = asks_own_slots fault ≡ true

irregular_asks : (p : Values) (frame : Sighting) → AsksOwnSlots (irregular_fault p frame)
irregular_asks p frame = by (has_channel (node_of p frame.node) frame.channel)
  where
    by : (there : Bool)
        → AsksOwnSlots (if there
        then Form frame.number frame.node frame.channel (pos frame.stamp) frame.slot
        else Stranger frame.number frame.node frame.channel (pos frame.stamp) frame.slot)
    by true = refl
    by false = refl

-- each asks for own slots
pub slot_faults_ask : (p : Values) (frames : List Sighting) → All AsksOwnSlots (slot_faults p frames)
unfolding slot_faults
slot_faults_ask p [] = All-nil AsksOwnSlots
slot_faults_ask p (frame ∷ frames) = All-cons AsksOwnSlots (irregular_fault p frame) (slot_faults p frames) (irregular_asks p frame) (slot_faults_ask p frames)
