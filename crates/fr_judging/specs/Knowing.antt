-- What a log tells of how far the clocks of a cluster lie apart in a double cycle, in ticks: by what is seen of it, and by what is known
-- of it from the one before, or as the log states. No bound of the cluster is asked for. Which double cycles are judged by such numbers, and what
-- contradicts them.
use Rattle.std.specs.Prelude.{ℕ, ◌+◌, ◌*◌, ◌==◌, ℤ, pos, ◌-ℤ◌, max, ◌&&◌, Bool, false, List, [], ◌∷◌, ◌++◌, codes, filter_map, Option, Some, None, IfSome, is_none, if◌then◌else◌}
use Rattle.std.specs.Fmt.{decimal}
use Rattle.std.specs.Int.{int_max}
use Rattle.std.specs.Option.{option_map, option_or, option_to_list}
use Rattle.fr_bound.specs.Judged.{all_but_first_hold, apart_through, from_none, is_judged_double, known_after, met_with, IsSmall}
use Rattle.fr_bound.specs.SharpSpreads.{sharply_near_in}
use Rattle.fr_bound.specs.declared.judging.Heard.{Heard}
use Rattle.fr_bound.specs.declared.judging.Known.{Known}
use Rattle.fr_cluster.specs.Values.{Values}
use Rattle.fr_log.specs.View.{LogView}
use Rattle.fr_course.specs.Computed.{length_ticks}
use Rattle.fr_course.specs.Spread.{lengths_apart, starts_apart}
use Rattle.fr_course.specs.Scales.{Scale}
use Rattle.fr_sightings.specs.declared.sender.Sender.{Sender}
use Rattle.fr_sightings.specs.declared.sighting.Sighting.{Sighting}
use Rattle.fr_observe.specs.Faults.{beyond_fault, length_beyond, longest_cycle_of, missing_frames, offset_fault, rate_fault, shortest_cycle_of, skew_fault, stated_flutter}
use Rattle.fr_observe.specs.Observing.{courses_of, even_high, even_low, odd_high, odd_low, row}
use Rattle.fr_judging.specs.Hearing.{log_unheard, synced_with}
use Rattle.fr_judging.specs.Obstacles.{faulty, first_unseen, of_several}
use Rattle.fr_observe.specs.declared.fault.Fault.{Fault}
use Rattle.fr_observe.specs.declared.apart_faults.Apart.TheVariants.{Lengths, Starts}
use Rattle.fr_observe.specs.declared.fault.LogSpan.{LogSpan}
use Rattle.fr_judging.specs.declared.knowing.Standing.{Standing}
use Rattle.fr_judging.specs.declared.obstacle.Obstacle.{Obstacle}
use Rattle.fr_judging.specs.declared.obstacle.ObstacleKind.TheVariants as obstacle

-- ---- what is seen

-- how far the lengths of a sender's cycles may lie beyond their range, as they are seen; below 0 where they lie inside
abbrev pub beyond_of : Values → Scale → Sender → ℤ
beyond_of p scale s =
    int_max (shortest_cycle_of p -ℤ (length_ticks scale s.course).low) ((length_ticks scale s.course).high -ℤ longest_cycle_of p)

-- those of some senders
unfoldable pub most_beyond : Values → Scale → List Sender → ℕ
most_beyond p scale [] = 0
most_beyond p scale (s ∷ senders) = max (from_none (beyond_of p scale s)) (most_beyond p scale senders)

-- what their courses tell of a double cycle
abbrev pub known_by : Values → Scale → List Sender → Known
known_by p scale senders =
    record {
      spread =
          record {
            starts = from_none (starts_apart scale (courses_of senders)).high;
            lengths = from_none (lengths_apart scale (courses_of senders)).high;
          };
      beyond = most_beyond p scale senders;
    }

-- it is told where all nodes that are not arbitrary were seen in both of its cycles, and nothing contradicts it; `told` is the first
-- fault in it that is told always
unfoldable pub known_seen : Values → Scale → LogView → List Sighting → ℕ → List Sender → Option Fault → Option Known
known_seen p scale l here double senders told =
    if is_none told && is_none (first_unseen l here double p.nodes) then Some (known_by p scale senders) else None

-- ---- what the log states

-- whether it states that the cluster is in sync in a double cycle
abbrev pub is_stated_at : Option ℕ → ℕ → Bool
is_stated_at None double = false
is_stated_at (Some cycle) double = cycle == 2 * double

-- then so much is known of that
abbrev pub known_as_stated : Values → LogView → Heard → ℕ → Option Known
known_as_stated p l what double = if is_stated_at l.since double then Some (synced_with p l what) else None

-- ---- whether it is judged

abbrev pub is_judged_by : Values → LogView → Option Known → Bool
is_judged_by p l None = false
is_judged_by p l (Some met) = is_judged_double p (stated_flutter p l) met

-- what keeps it from that: a check but the first fails with its starts and lengths, or these are too much for the rate limit
abbrev pub unfit : Values → LogView → ℕ → Option Known → Option Obstacle
unfit p l double None = None
unfit p l double (Some met) =
    if all_but_first_hold (stated_flutter p l) (sharply_near_in p met.spread) p
    then of_several obstacle.Drift double
    else of_several obstacle.Reach double

-- what hides it: first a node that was not seen, then a fault that is told always
abbrev pub hindrance_by : Values → LogView → List Sighting → ℕ → Option Fault → Option Obstacle
hindrance_by p l here double told = option_or (first_unseen l here double p.nodes) (faulty told)

-- what keeps it from being judged, where it is not: first what hides it, then its numbers
abbrev pub unjudged_by : Bool → Values → LogView → ℕ → Option Obstacle → Option Known → Option Obstacle
unjudged_by judged p l double hidden met = if judged then None else option_or hidden (unfit p l double met)

-- how a double cycle stands: what is known of it from the one before and by what the log states, that met with what is seen of it, and
-- whether it is judged by this, or what keeps it from that. Where it is not told what its nodes hear, nothing is known
abbrev pub standing_with : Values → LogView → ℕ → Heard → Option Obstacle → Option Known → Option Known → Standing
standing_with p l double what hidden known met =
    record {
      heard = Some what;
      known = known;
      met = met;
      is_judged = is_judged_by p l met;
      obstacle = unjudged_by (is_judged_by p l met) p l double hidden met;
    }

unfoldable pub standing_of : Values → Scale → LogView → List Sighting → ℕ → List Sender → Option Heard → Option Known → Option Fault → Standing
standing_of p scale l here double senders None known told =
    record { heard = None; known = None; met = None; is_judged = false; obstacle = Some (log_unheard p l) }
standing_of p scale l here double senders (Some what) known told =
    standing_with p l double what (hindrance_by p l here double told) (met_with known (known_as_stated p l what double))
    (met_with (met_with known (known_as_stated p l what double)) (known_seen p scale l here double senders told))

-- the numbers that it is judged by
abbrev pub judged_met : Standing → Option Known
judged_met st = if st.is_judged then st.met else None

-- these are small
abbrev pub JudgedBySmall : Standing → Type 0
JudgedBySmall st = IfSome (judged_met st) IsSmall

-- what is known of the next one, where this one is clear: neither its skews nor its starts and lengths contradict its numbers
abbrev pub known_next_by : Values → LogView → Option Heard → Option Known → Option Known
known_next_by p l None judged = None
known_next_by p l (Some what) judged = option_map (known_after what p (stated_flutter p l)) judged

unfoldable pub known_next : Values → LogView → Standing → Bool → Option Known
known_next p l st is_clear = if is_clear then known_next_by p l st.heard (judged_met st) else None

-- ---- what contradicts it

-- its skews, where it is judged by its own numbers
unfoldable pub judged_skews : Values → LogView → Scale → ℕ → List Sender → Heard → Option Known → List Fault
judged_skews p l scale double senders what None = []
judged_skews p l scale double senders what (Some met) =
    option_to_list
    (
    skew_fault (pos (apart_through what p (stated_flutter p l) met)) (2 * double) (even_low scale senders) (even_high scale senders)
    )
    ++ option_to_list
    (
    skew_fault (pos (apart_through what p (stated_flutter p l) met)) (2 * double + 1) (odd_low scale senders) (odd_high scale senders)
    )

-- its starts and lengths, where something is known of them from the one before, which was judged, or as the log states
unfoldable pub known_apart : Values → Scale → ℕ → List Sender → Option Known → List Fault
known_apart p scale double senders None = []
known_apart p scale double senders (Some known) =
    option_to_list (beyond_fault Starts (2 * double) (pos known.spread.starts) (starts_apart scale (courses_of senders)))
    ++ option_to_list (beyond_fault Lengths (2 * double) (pos known.spread.lengths) (lengths_apart scale (courses_of senders)))
    ++ filter_map (length_beyond p scale known.beyond double) senders

-- both: behind one of these nothing is known of the next double cycle
abbrev pub moving_heard : Values → LogView → Scale → ℕ → List Sender → Standing → Option Heard → List Fault
moving_heard p l scale double senders st None = []
moving_heard p l scale double senders st (Some what) =
    judged_skews p l scale double senders what (judged_met st) ++ known_apart p scale double senders st.known

unfoldable pub moving_faults : Values → LogView → Scale → ℕ → List Sender → Standing → List Fault
moving_faults p l scale double senders st = moving_heard p l scale double senders st st.heard

-- its terms, where it is judged: by so many senders that each node may have missed
unfoldable pub judged_terms : Values → LogView → Scale → ℕ → List Sender → Option Known → List Fault
judged_terms p l scale double senders None = []
judged_terms p l scale double senders (Some met) =
    filter_map (offset_fault p l scale double senders l.lost) senders ++ filter_map (rate_fault p l scale double senders l.lost) senders

-- frames that are missing, where something is known of it beside what is seen; `before` are the sightings of the one before
unfoldable pub known_missing : Values → LogView → LogSpan → List Sighting → List Sighting → ℕ → Option Known → List Fault
known_missing p l span before here double None = []
known_missing p l span before here double (Some known) = missing_frames p l span before here double

-- both: these end nothing that is known
unfoldable pub term_faults : Values → Scale → LogView → LogSpan → List Sighting → List Sighting → ℕ → List Sender → Standing → List Fault
term_faults p scale l span before here double senders st =
    judged_terms p l scale double senders (judged_met st) ++ known_missing p l span before here double st.known

-- all
unfoldable pub standing_faults : Values → Scale → LogView → LogSpan → List Sighting → List Sighting → ℕ → List Sender → Standing → List Fault
standing_faults p scale l span before here double senders st =
    moving_faults p l scale double senders st ++ term_faults p scale l span before here double senders st

-- ---- as a record

-- of one that is judged: how far starts and lengths lie apart in it, how far these lie beyond their range, and how far macroticks lie
-- apart, all at most
unfoldable pub spread_row : Values → LogView → Heard → ℕ → Known → List ℕ
spread_row p l what double known =
    row (codes "spread")
    (
    decimal double ∷ decimal known.spread.starts ∷ decimal known.spread.lengths ∷ decimal known.beyond
    ∷ decimal (apart_through what p (stated_flutter p l) known) ∷ [] ∷ [] ∷ []
    )

abbrev pub spread_heard : Values → LogView → ℕ → Option Heard → Option Known → List ℕ
spread_heard p l double None judged = []
spread_heard p l double (Some what) None = []
spread_heard p l double (Some what) (Some known) = spread_row p l what double known

unfoldable pub spread_told : Values → LogView → ℕ → Standing → List ℕ
spread_told p l double st = spread_heard p l double st.heard (judged_met st)
