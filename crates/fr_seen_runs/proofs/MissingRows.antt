-- The rows of what nodes missed: in each run that a log is seen of, as it states before the double cycle of a row, its node misses no
-- fewer senders.
use Rattle.std.proofs.Common.{◌≡◌, ◌∙◌, ℕ, suc, ◌+◌, ◌*◌, ◌/◌, ◌==◌, ◌<◌, ◌≤◌, Bool, true, false, if◌then◌else◌, Option, Some, None, List, [], ◌∷◌, ◌++◌, All, length, refl, ap, sym, subst, arith}
use Rattle.std.specs.Prelude.{Contains, IfSome, is_none}
use Rattle.std.proofs.lemmas.List.Elements.{All-append, All-cons, All-contains, All-map, All-nil, All-weaker}
use Rattle.fr_base.specs.declared.channel.Channel.{Channel}
use Rattle.fr_bound.specs.declared.judging.Heard.{Heard}
use Rattle.fr_bound.specs.declared.judging.Known.{Known}
use Rattle.fr_cluster.specs.Setting.{Setting}
use Rattle.fr_cluster.specs.Values.{Values}
use Rattle.fr_history.specs.Cycles.{Cycles}
use Rattle.fr_log.specs.View.{LogView}
use Rattle.fr_course.specs.Readings.{reading_scale}
use Rattle.fr_course.specs.Scales.{Scale}
use Rattle.fr_course.specs.declared.stamps.Delays.{Delays}
use Rattle.fr_sightings.specs.Sightings.{OffendingFrames, offending_frames_of, sightings_of}
use Rattle.fr_sightings.specs.declared.sender.Sender.{Sender}
use Rattle.fr_sightings.specs.declared.sighting.Sighting.{Sighting}
use Rattle.fr_observe.specs.Faults.{first_of_faults, other_courses}
use Rattle.fr_observe.specs.Observing.{seen_doubles, senders_of}
use Rattle.fr_observe.specs.declared.fault.Fault.{Fault}
use Rattle.fr_judging.specs.Hearing.{log_heard}
use Rattle.fr_judging.specs.Knowing.{judged_met, standing_of}
use Rattle.fr_judging.specs.Missing.{all_missed, least_missed, missed_if_any, missed_where, missed_of_term, missed_with, unlike_term}
use Rattle.fr_judging.specs.declared.knowing.Standing.{Standing}
use Rattle.fr_judging.specs.declared.missed.Missed.{Missed}
use Rattle.fr_observe.specs.declared.term.Term.{Term}
use Rattle.fr_observe.specs.declared.term.Term.TheVariants.{Offset, Rate}
use Rattle.fr_findings.specs.Verdict.{Basis, DoubleCycle, double_at, log_basis, no_progress, own_told, progress_behind, standing_told}
use Rattle.fr_findings.specs.declared.progress.Progress.{Progress}
use Rattle.fr_sharp.specs.JudgedSteps.{IsHeardIn}
use Rattle.fr_seen.specs.Clocks.{StraightClock}
use Rattle.fr_seen.specs.LogSeen.{log_senders, run_double}
use Rattle.fr_seen.proofs.SenderLaws.{all_given}
use Rattle.fr_seen.specs.Contradictions.{IsAsLogStatesBefore, IsObservedRun}
use Rattle.fr_seen_runs.specs.Standings.{IsKnownOfLog, IsNoLess, Missing, MissingIsSo, MissingsAreSo, log_missing, log_standing, missed_rows_from, missed_rows_of}
use Rattle.fr_seen_runs.proofs.ComputedMissed.{fewer_others, least_no_less, same_term}
use Rattle.fr_seen_runs.proofs.Contradicted.{AreStanding, known_step}
use Rattle.fr_seen_runs.proofs.Progressing.{seen_in_turn, told_all, told_from}
use Rattle.fr_seen_runs.proofs.Standings.{IsJudged, KnownIsKept, judged_is, none_missed_by, stands_so}

-- ---- the least number that nothing contradicts

-- what is told of it is so, where nobody misses as many as are contradicted
no_less : (p : Values) (l : LogView) (scale : Scale) (double : ℕ) (senders : List Sender) (s : Sender) → Contains senders s → (kind : Term) (lost : ℕ)
    → ((fault : Fault) → unlike_term kind p l scale double senders s lost ≡ Some fault → ⊥) → IsNoLess (least_missed kind p l scale double senders s) lost
no_less p l scale double senders s among kind lost none =
    let test : ℕ → Bool = λ n. is_none (unlike_term kind p l scale double senders s n) in
    least_no_less test (length senders) (length (other_courses senders s.node)) lost (fewer_others p l scale double senders s among) (ap is_none (same_term p l scale double senders s kind lost))
    (free (unlike_term kind p l scale double senders s lost) none) (least_missed kind p l scale double senders s) refl
  where
    free : (told : Option Fault) → ((fault : Fault) → told ≡ Some fault → ⊥) → is_none told ≡ true
    free None never = refl
    free (Some fault) never = absurd (never fault refl)

-- a row is told with it
same_row : (one other : Missed) → Some one ≡ Some other → one ≡ other
same_row one other is = cc is

row_is : (kind : Term) (double node : ℕ) (least : Option ℕ) (missed : Missed) → missed_if_any kind double node least ≡ Some missed → missed_with kind double node least ≡ missed
row_is kind double node None missed told = same_row (missed_with kind double node None) missed told
row_is kind double node (Some least) missed told = by (least == 0) told
  where
    by : (b : Bool) → (if b then None else Some (missed_with kind double node (Some least))) ≡ Some missed → missed_with kind double node (Some least) ≡ missed
    by true none = absurd (cc none)
    by false given = same_row (missed_with kind double node (Some least)) missed given

-- ---- a double cycle

module _
    (x : Setting) (h : Cycles) (base : ℕ) (delays : ℕ → Channel → Delays) (clock : ℕ → StraightClock) (l : LogView) (what : Heard) (double : ℕ)
    (until : ℕ) (run : IsObservedRun x h base delays clock l) (states : IsAsLogStatesBefore x h base l until) (is : log_heard x.params l ≡ Some what)
    (among : Contains (seen_doubles (sightings_of x.params l)) double) (kept : KnownIsKept) (hearing : Heard) (hears : IsHeardIn hearing x (run_double base double))
  where
    abbrev Scaled : Scale
    Scaled = reading_scale l.drift x.params

    abbrev Senders : List Sender
    Senders = log_senders x l double

    abbrev IsSo : Missed → Type 0
    IsSo missed = MissingIsSo x base (record { number = double; missed = missed })

    abbrev Row : Term → Sender → Missed
    Row kind s = missed_with kind double s.node (least_missed kind x.params l (reading_scale l.drift x.params) double (log_senders x l double) s)

    sender_so : (met : Known) → IsJudged x h base delays clock l what double until run states is among kept met → (kind : Term) (s : Sender) → Contains (log_senders x l double) s → (missed : Missed)
        → missed_where kind x.params l (reading_scale l.drift x.params) double (log_senders x l double) s ≡ Some missed → MissingIsSo x base (record { number = double; missed = missed })
    sender_so met j kind s there missed told =
        subst IsSo (row_is kind double s.node (least_missed kind x.params l Scaled double Senders s) missed told) so
      where
        so : IsSo (Row kind s)
        so node lost correct number misses =
            no_less x.params l Scaled double Senders s there kind lost
            (λ fault contradicted. none_missed_by x h base delays clock l what double until run states is among kept hearing hears met j kind s node lost fault there correct number contradicted misses)

    missed_so : (judged : Option Known) → IfSome judged (IsJudged x h base delays clock l what double until run states is among kept)
        → All (λ missed. MissingIsSo x base (record { number = double; missed = missed })) (all_missed x.params l (reading_scale l.drift x.params) double (log_senders x l double) judged)
    missed_so None none = All-nil IsSo
    missed_so (Some met) j =
        let p = x.params in
        All-append IsSo (missed_of_term Offset p l Scaled double Senders) (missed_of_term Rate p l Scaled double Senders)
        (all_given (missed_where Offset p l Scaled double Senders) IsSo Senders (sender_so met j Offset))
        (all_given (missed_where Rate p l Scaled double Senders) IsSo Senders (sender_so met j Rate))

-- ---- a log

-- a row is so, if it is of a double cycle
abbrev IsSoAt : Setting → ℕ → ℕ → Missing → Type 0
IsSoAt x base last m = (m.number == last) ≡ true → MissingIsSo x base m

all_so : {X : Type 0} (P : X → Type 0) → ((x : X) → P x) → (xs : List X) → All P xs
all_so P each [] = All-nil P
all_so P each (x ∷ xs) = All-cons P x xs (each x) (all_so P each xs)

-- the rows of one double cycle, by what is known of those before it
module _ (x : Setting) (h : Cycles) (base : ℕ) (delays : ℕ → Channel → Delays) (clock : ℕ → StraightClock) (l : LogView) (last : ℕ) (run : IsObservedRun x h base delays clock l)
    (states : IsAsLogStatesBefore x h base l (run_double base last)) (hearing : Heard) (hears : IsHeardIn hearing x (run_double base last)) (kept : KnownIsKept) where
  abbrev Seen : List Sighting
  Seen = sightings_of x.params l

  abbrev Offending : OffendingFrames
  Offending = offending_frames_of x.params l

  abbrev Log : Basis
  Log = log_basis x.params l

  abbrev At : ℕ → DoubleCycle
  At double = double_at Log Seen Offending double

  standing_by : (double : ℕ) (heard : Option Heard) (known : Option Known) → Standing
  standing_by double heard known =
      standing_of x.params Log.scale l (At double).here (At double).number (At double).senders heard known (first_of_faults (own_told Log (At double)))

  missing_by : (double : ℕ) (heard : Option Heard) (known : Option Known) → IsHeardIn hearing x (run_double base double)
      → log_heard x.params l ≡ heard → Contains (seen_doubles Seen) double → IsKnownOfLog x h base double known
      → All (λ missed. MissingIsSo x base (record { number = double; missed = missed })) (all_missed x.params l Log.scale double (At double).senders (judged_met (standing_by double heard known)))
  unfolding standing_by standing_of double_at senders_of
  missing_by double None known here is among before = All-nil (λ missed. MissingIsSo x base (record { number = double; missed = missed }))
  missing_by double (Some what) known here is among before =
      let told = first_of_faults (own_told Log (At double)) in
      missed_so x h base delays clock l what double (run_double base last) run states is among kept hearing here (judged_met (log_standing x l what double known told))
      (judged_is x h base delays clock l what double (run_double base last) run states is among kept known told before)

  abbrev RowsOf : ℕ → Progress → List Missed
  RowsOf double progress = all_missed x.params l Log.scale double (At double).senders (judged_met (standing_told Log (At double) progress.known))

  missing_at : (double : ℕ) (progress : Progress) → IsHeardIn hearing x (run_double base double) → Contains (seen_doubles Seen) double → IsKnownOfLog x h base double progress.known
      → All (λ missed. MissingIsSo x base (record { number = double; missed = missed })) (RowsOf double progress)
  unfolding standing_told standing_by
  missing_at double progress here among before = missing_by double Log.heard progress.known here refl among before

  -- those before it stand so
  abbrev Within : ℕ → Type 0
  Within double = Contains (seen_doubles Seen) double × (run_double base double < run_double base last)

  standing : AreStanding x h base delays clock l run Within
  standing what double known told within is before =
      stands_so x h base delays clock l what double (run_double base last) run states is within.0 kept known told before within.1

  -- what is known of each up to it is so
  abbrev IsKnownTo : ℕ → Progress → Type 0
  IsKnownTo double progress = double ≤ last → IsKnownOfLog x h base double progress.known

  last_so : (double : ℕ) (progress : Progress) → Contains (seen_doubles Seen) double → IsKnownTo double progress
      → All (λ missed. IsSoAt x base last (record { number = double; missed = missed })) (RowsOf double progress)
  last_so double progress among before = by (double == last) refl
    where
      same : (a b : ℕ) → (a == b) ≡ true → b ≡ a
      same a b is = grind arith

      up_to : (a b : ℕ) → (a == b) ≡ true → a ≤ b
      up_to a b is = grind arith

      by : (b : Bool) → (double == last) ≡ b → All (λ missed. IsSoAt x base last (record { number = double; missed = missed })) (RowsOf double progress)
      by true is =
          All-weaker (λ missed. MissingIsSo x base (record { number = double; missed = missed })) (λ missed. IsSoAt x base last (record { number = double; missed = missed }))
          (λ missed so at. so) (RowsOf double progress)
          (missing_at double progress (subst (λ d. IsHeardIn hearing x (run_double base d)) (same double last is) hears) among (before (up_to double last is)))
      by false other = all_so (λ missed. IsSoAt x base last (record { number = double; missed = missed })) (λ missed is. absurd (cc (sym other ∙ is))) (RowsOf double progress)

  missing_step : (double : ℕ) (progress : Progress) → Contains (seen_doubles Seen) double → IsKnownTo double progress
      → All (IsSoAt x base last) (missed_rows_of Log Seen Offending progress double) × IsKnownTo (suc double) (progress_behind Log Seen Offending double progress)
  missing_step double progress among before = (
    All-map (IsSoAt x base last) (λ missed. record { number = double; missed = missed }) (RowsOf double progress) (last_so double progress among before),
    λ below. (known_step x h base delays clock l run Within standing (λ fault. ⊥) double progress (among, under double last (base / 2) below) (before (up_to double last below))).1,
  )
    where
      under : (d n b : ℕ) → suc d ≤ n → d + b < n + b
      under d n b below = omega (arith, below)

      up_to : (d n : ℕ) → suc d ≤ n → d ≤ n
      up_to d n below = omega (arith, below)

  missing_are : (progress : Progress) (doubles : List ℕ) → told_from Log Seen Offending (λ double before. missed_rows_of Log Seen Offending before double) progress doubles ≡ missed_rows_from Log Seen Offending progress doubles
  unfolding told_from missed_rows_from
  missing_are progress [] = refl
  missing_are progress (double ∷ doubles) =
      ap (λ rows. missed_rows_of Log Seen Offending progress double ++ rows) (missing_are (progress_behind Log Seen Offending double progress) doubles)

  pub missings_told : All (IsSoAt x base last) (log_missing x.params l)
  unfolding log_missing
  missings_told =
      subst (All (IsSoAt x base last)) (missing_are no_progress (seen_doubles Seen))
      (
      told_all Log Seen Offending (λ double before. missed_rows_of Log Seen Offending before double) (IsSoAt x base last) IsKnownTo (seen_doubles Seen) no_progress (seen_in_turn Seen)
      missing_step (λ first to. tt)
      )

pub missings_are_so : KnownIsKept → MissingsAreSo
missings_are_so kept x h base delays clock l m hearing run states hears among =
    All-contains (IsSoAt x base m.number) (log_missing x.params l) m (missings_told x h base delays clock l m.number run states hearing hears kept) among (itself m.number)
  where
    itself : (n : ℕ) → (n == n) ≡ true
    itself n = grind arith
