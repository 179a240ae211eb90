-- Double cycles by their own numbers: what is seen of one is known of each run that the log is seen of, and what is known of one is
-- contradicted by nothing in it.
use Rattle.std.specs.Prelude.{◌≡◌, ◌+◌, ◌*◌, ℕ, pos, true, List, [], Contains, filter_map, None, Option, Some}
use Rattle.fr_base.specs.declared.channel.Channel.{Channel}
use Rattle.fr_bound.specs.declared.judging.Known.{Known}
use Rattle.fr_cluster.specs.Setting.{Setting}
use Rattle.fr_history.specs.Cycles.{Cycles}
use Rattle.fr_log.specs.View.{LogView}
use Rattle.fr_course.specs.Readings.{reading_scale}
use Rattle.fr_course.specs.Spread.{lengths_apart, starts_apart}
use Rattle.fr_course.specs.declared.stamps.Delays.{Delays}
use Rattle.fr_sightings.specs.Senders.{sightings_in}
use Rattle.fr_sightings.specs.Sightings.{sightings_of}
use Rattle.fr_sightings.specs.declared.sighting.Sighting.{Sighting}
use Rattle.fr_observe.specs.Faults.{beyond_fault, length_beyond, missing_frames, skew_fault}
use Rattle.fr_judging.specs.Knowing.{known_apart, known_missing, known_seen}
use Rattle.fr_observe.specs.Observing.{courses_of, even_high, even_low, odd_high, odd_low, seen_doubles}
use Rattle.fr_observe.specs.declared.fault.Fault.{Fault}
use Rattle.fr_observe.specs.declared.apart_faults.Apart.TheVariants.{Lengths, Starts}
use Rattle.fr_findings.specs.Verdict.{log_span}
use Rattle.fr_seen.specs.Clocks.{StraightClock}
use Rattle.fr_seen.specs.LogSeen.{log_senders, run_double}
use Rattle.fr_runs.specs.SharpHistories.{EachHasRow, IsKnownAt, KeepsApart}
use Rattle.fr_seen.specs.Contradictions.{IsObservedRun, MissesNone, NamesArbitrary}

-- ---- what is seen

-- what the courses of a double cycle tell of it, in which all nodes that are not arbitrary were seen and nothing is told, is known of
-- it in the run; and each correct node has a row in it
abbrev pub SeenIsKnown : Type 0
SeenIsKnown =
    (x : Setting) (h : Cycles) (base : ℕ) (delays : ℕ → Channel → Delays) (clock : ℕ → StraightClock) (l : LogView)
    (double : ℕ) (told : Option Fault) (known : Known)
    → IsObservedRun x h base delays clock l → NamesArbitrary x l → Contains (seen_doubles (sightings_of x.params l)) double
    → known_seen x.params (reading_scale l.drift x.params) l (sightings_in (sightings_of x.params l) double) double
    (log_senders x l double) told
    ≡ Some known
    → IsKnownAt x h (run_double base double) known × EachHasRow x h (run_double base double)

-- ---- what is known

-- starts and lengths certainly lie no further apart than so, and lengths no further beyond their range
pub record HasNoFaultBeyond (x : Setting) (l : LogView) (double : ℕ) (known : Known) : Type 0 where
  pub starts :
      beyond_fault Starts (2 * double) (pos known.spread.starts)
      (starts_apart (reading_scale l.drift x.params) (courses_of (log_senders x l double)))
      ≡ None
  pub lengths :
      beyond_fault Lengths (2 * double) (pos known.spread.lengths)
      (lengths_apart (reading_scale l.drift x.params) (courses_of (log_senders x l double)))
      ≡ None
  pub long :
      filter_map (length_beyond x.params (reading_scale l.drift x.params) known.beyond double) (log_senders x l double) ≡ []

abbrev pub NoFaultBeyond : Type 0
NoFaultBeyond =
    (x : Setting) (h : Cycles) (base : ℕ) (delays : ℕ → Channel → Delays) (clock : ℕ → StraightClock) (l : LogView)
    (double : ℕ) (known : Known)
    → IsObservedRun x h base delays clock l → IsKnownAt x h (run_double base double) known
    → HasNoFaultBeyond x l double known

-- no frame is missing where each correct node has a row, whichever nodes were seen before
abbrev pub NoKnownFrameMissing : Type 0
NoKnownFrameMissing =
    (x : Setting) (h : Cycles) (base : ℕ) (delays : ℕ → Channel → Delays) (clock : ℕ → StraightClock) (l : LogView)
    (before : List Sighting) (double : ℕ) (known : Known)
    → IsObservedRun x h base delays clock l → NamesArbitrary x l → (l.whole ≡ true → MissesNone x h base l)
    → IsKnownAt x h (run_double base double) known → EachHasRow x h (run_double base double)
    → missing_frames x.params l (log_span (sightings_of x.params l)) before (sightings_in (sightings_of x.params l) double) double
    ≡ []

-- so nothing contradicts it
abbrev pub NoKnownFault : Type 0
NoKnownFault =
    (x : Setting) (h : Cycles) (base : ℕ) (delays : ℕ → Channel → Delays) (clock : ℕ → StraightClock) (l : LogView)
    (before : List Sighting) (double : ℕ) (known : Known)
    → IsObservedRun x h base delays clock l → NamesArbitrary x l → (l.whole ≡ true → MissesNone x h base l)
    → IsKnownAt x h (run_double base double) known → EachHasRow x h (run_double base double)
    → (known_apart x.params (reading_scale l.drift x.params) double (log_senders x l double) (Some known) ≡ [])
    × (
    known_missing x.params l (log_span (sightings_of x.params l)) before (sightings_in (sightings_of x.params l) double)
    double (Some known)
    ≡ []
    )

-- ---- skew

-- the skew of no cycle is certainly above a number of ticks
pub record HasNoSkewAbove (x : Setting) (l : LogView) (double apart : ℕ) : Type 0 where
  pub even :
      skew_fault (pos apart) (2 * double) (even_low (reading_scale l.drift x.params) (log_senders x l double))
      (even_high (reading_scale l.drift x.params) (log_senders x l double))
      ≡ None
  pub odd :
      skew_fault (pos apart) (2 * double + 1) (odd_low (reading_scale l.drift x.params) (log_senders x l double))
      (odd_high (reading_scale l.drift x.params) (log_senders x l double))
      ≡ None

-- where no macroticks of the double cycle lie further apart
abbrev pub NoSkewFaultWithin : Type 0
NoSkewFaultWithin =
    (x : Setting) (h : Cycles) (base : ℕ) (delays : ℕ → Channel → Delays) (clock : ℕ → StraightClock) (l : LogView)
    (double apart : ℕ) (known : Known)
    → IsObservedRun x h base delays clock l → IsKnownAt x h (run_double base double) known
    → KeepsApart x h (run_double base double) apart → HasNoSkewAbove x l double apart
