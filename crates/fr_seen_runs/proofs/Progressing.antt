-- What holds behind some double cycles of a log, one after the other.
use Rattle.std.proofs.Common.{◌≡◌, ℕ, zero, suc, ◌+◌, ◌-◌, Option, Some, None, List, [], ◌∷◌, ◌++◌, All, length, refl, ap, sym, ◌∙◌, subst, arith}
use Rattle.std.specs.Prelude.{Contains, slice_get}
use Rattle.std.specs.List.{range_with_len}
use Rattle.std.specs.Option.{option_or}
use Rattle.std.proofs.lemmas.List.Elements.{All-append, All-nil}
use Rattle.fr_base.specs.declared.channel.Channel.{Channel}
use Rattle.fr_bound.specs.declared.judging.Known.{Known}
use Rattle.fr_cluster.specs.Setting.{Setting}
use Rattle.fr_cluster.proofs.Elements.{Contains-here, Contains-there}
use Rattle.fr_history.specs.Cycles.{Cycles}
use Rattle.fr_log.specs.View.{LogView}
use Rattle.fr_course.specs.declared.stamps.Delays.{Delays}
use Rattle.fr_observe.specs.Observing.{doubles_between, seen_doubles, senders_of}
use Rattle.fr_sightings.specs.Senders.{double_of, sightings_in}
use Rattle.fr_sightings.specs.Sightings.{sightings_of}
use Rattle.fr_sightings.specs.declared.sighting.Sighting.{Sighting}
use Rattle.fr_seen.specs.Clocks.{StraightClock}
use Rattle.fr_seen.specs.Contradictions.{IsObservedRun}
use Rattle.fr_observe.specs.declared.fault.Fault.{Fault}
use Rattle.fr_observe.specs.Faults.{first_of_faults, slot_faults}
use Rattle.fr_findings.specs.Verdict.{Basis, DoubleCycle, double_at, double_faults, faults_told, known_told, log_basis, own_told, progress_behind, progress_of, progress_told}
use Rattle.fr_findings.specs.declared.progress.Progress.{Progress}
use Rattle.fr_sightings.specs.Sightings.{OffendingFrames, irregular_of, offending_frames_of}
use Rattle.fr_seen_runs.specs.ToldFaults.{faults_from}
use Rattle.fr_seen_runs.proofs.OwnFaults.{own_faults_are_none}

-- ---- double cycles

-- those of a log follow each other
pub record AreInTurn (doubles : List ℕ) : Type 0 where
  pub first : ℕ
  pub count : ℕ
  pub are : doubles ≡ range_with_len first count

pub seen_in_turn : (seen : List Sighting) → AreInTurn (seen_doubles seen)
unfolding seen_doubles
seen_in_turn seen = by (slice_get seen 0) (slice_get seen (length seen - 1))
  where
    by : (first last : Option Sighting) → AreInTurn (doubles_between first last)
    by None last = record { first = 0; count = 0; are = refl }
    by (Some first) None = record { first = 0; count = 0; are = refl }
    by (Some first) (Some last) = record { first = double_of first; count = double_of last + 1 - double_of first; are = refl }

-- what holds before a double cycle of a log holds behind it, and so behind all of them
pub record HoldsBehind (P : ℕ → Progress → Type 0) (progress : Progress) : Type 0 where
  pub behind : ℕ
  pub holds : P behind progress

module _ (b : Basis) (seen : List Sighting) (offending : OffendingFrames) (P : ℕ → Progress → Type 0) where
  behind_each : (count first : ℕ) (progress : Progress)
      → ((double : ℕ) (before : Progress) → Contains (range_with_len first count) double → P double before → P (suc double) (progress_behind b seen offending double before))
      → P first progress → HoldsBehind P (progress_of b seen offending progress (range_with_len first count))
  unfolding progress_of
  behind_each zero first progress step holds = record { behind = first; holds = holds }
  behind_each (suc count) first progress step holds =
      behind_each count (first + 1) (progress_behind b seen offending first progress)
      (λ double before among. step double before (Contains-there first (range_with_len (first + 1) count) double among))
      (subst (λ n. P n (progress_behind b seen offending first progress)) (next first) (step first progress (Contains-here first (range_with_len (first + 1) count)) holds))
    where
      next : (n : ℕ) → suc n ≡ n + 1
      next n = omega arith

  pub behind_all : (doubles : List ℕ) (progress : Progress) → AreInTurn doubles
      → ((double : ℕ) (before : Progress) → Contains doubles double → P double before → P (suc double) (progress_behind b seen offending double before))
      → ((first : ℕ) → P first progress) → HoldsBehind P (progress_of b seen offending progress doubles)
  behind_all doubles progress turn step holds =
      subst (λ ds. HoldsBehind P (progress_of b seen offending progress ds)) (sym turn.are)
      (
      behind_each turn.count turn.first progress (λ double before among. step double before (subst (λ ds. Contains ds double) (sym turn.are) among))
      (holds turn.first)
      )

-- ---- all faults

-- the first one behind some double cycles is the first of all, behind those before
or_none : (o : Option Fault) → o ≡ option_or o None
or_none None = refl
or_none (Some fault) = refl

or_both : (o : Option Fault) (some more : List Fault) → option_or (option_or o (first_of_faults some)) (first_of_faults more) ≡ option_or o (first_of_faults (some ++ more))
or_both (Some fault) some more = refl
or_both None [] more = refl
or_both None (fault ∷ some) more = refl

module _ (b : Basis) (seen : List Sighting) (offending : OffendingFrames) where
  pub first_is : (doubles : List ℕ) (progress : Progress)
      → (progress_of b seen offending progress doubles).first ≡ option_or progress.first (first_of_faults (faults_from b seen offending progress doubles))
  unfolding progress_of faults_from progress_told
  first_is [] progress = or_none progress.first
  first_is (double ∷ doubles) progress =
      first_is doubles (progress_behind b seen offending double progress)
      ∙ or_both progress.first (double_faults b seen offending double progress.known)
      (faults_from b seen offending (progress_behind b seen offending double progress) doubles)

-- ---- what is told of each one by what is known of it

module _ (b : Basis) (seen : List Sighting) (offending : OffendingFrames) {X : Type 0} (told : ℕ → Progress → List X) where
  -- that of all, one after the other
  unfoldable pub told_from : Progress → List ℕ → List X
  told_from progress [] = []
  told_from progress (double ∷ doubles) = told double progress ++ told_from (progress_behind b seen offending double progress) doubles

  -- what holds of each that is told of one, and of nothing, holds of all
  module _ (Q : X → Type 0) (P : ℕ → Progress → Type 0) where
    abbrev Steps : List ℕ → Type 0
    Steps doubles =
        (double : ℕ) (before : Progress) → Contains doubles double → P double before
        → All Q (told double before) × P (suc double) (progress_behind b seen offending double before)

    told_each : (count first : ℕ) (progress : Progress) → Steps (range_with_len first count) → P first progress → All Q (told_from progress (range_with_len first count))
    unfolding told_from
    told_each zero first progress step holds = All-nil Q
    told_each (suc count) first progress step holds =
        let one = step first progress (Contains-here first (range_with_len (first + 1) count)) holds in
        All-append Q (told first progress) (told_from (progress_behind b seen offending first progress) (range_with_len (first + 1) count)) one.0
        (told_each count (first + 1) (progress_behind b seen offending first progress)
        (λ double before among. step double before (Contains-there first (range_with_len (first + 1) count) double among))
        (subst (λ n. P n (progress_behind b seen offending first progress)) (next first) one.1))
      where
        next : (n : ℕ) → suc n ≡ n + 1
        next n = omega arith

    pub told_all : (doubles : List ℕ) (progress : Progress) → AreInTurn doubles → Steps doubles → ((first : ℕ) → P first progress) → All Q (told_from progress doubles)
    told_all doubles progress turn step holds =
        subst (λ ds. All Q (told_from progress ds)) (sym turn.are)
        (told_each turn.count turn.first progress (λ double before among. step double before (subst (λ ds. Contains ds double) (sym turn.are) among)) (holds turn.first))

-- ---- the faults of one

module _ (x : Setting) (h : Cycles) (base : ℕ) (delays : ℕ → Channel → Delays) (clock : ℕ → StraightClock) (l : LogView) (run : IsObservedRun x h base delays clock l) where
  abbrev Seen : List Sighting
  Seen = sightings_of x.params l

  abbrev Offending : OffendingFrames
  Offending = offending_frames_of x.params l

  abbrev At : ℕ → DoubleCycle
  At double = double_at (log_basis x.params l) Seen Offending double

  -- those of irregular frames are left of those that ask for no sync
  abbrev Irregular : ℕ → List Sighting
  Irregular double = sightings_in (irregular_of x.params l) double

  pub own_left : (double : ℕ) → Contains (seen_doubles Seen) double
      → own_told (log_basis x.params l) (At double) ≡ slot_faults x.params (Irregular double)
  unfolding own_told double_at senders_of
  own_left double among =
      ap (λ own. own ++ slot_faults x.params (Irregular double)) (own_faults_are_none x h base delays clock l double run among)

  -- and those of what is known
  pub faults_left : (double : ℕ) (known : Option Known) → Contains (seen_doubles Seen) double
      → faults_told (log_basis x.params l) (At double) known ≡ slot_faults x.params (Irregular double) ++ known_told (log_basis x.params l) (At double) known
  unfolding faults_told
  faults_left double known among = ap (λ own. own ++ known_told (log_basis x.params l) (At double) known) (own_left double among)
