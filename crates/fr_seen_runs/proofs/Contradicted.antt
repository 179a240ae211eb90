-- A log that is seen of a run has no fault that asks neither for runs as the log states nor for own slots, where the run is as the log
-- states none that asks for no own slots, and where its slots are own none that asks for them.
use Rattle.std.proofs.Common.{◌≡◌, ℕ, suc, Bool, true, false, Option, Some, None, List, [], ◌∷◌, ◌++◌, All, refl, ap, sym, ◌∙◌, subst}
use Rattle.std.specs.Prelude.{◌||◌, Contains, IfSome}
use Rattle.std.proofs.lemmas.List.Elements.{All-append, All-cons, All-head, All-nil, All-weaker}
use Rattle.fr_base.specs.declared.channel.Channel.{Channel}
use Rattle.fr_bound.specs.declared.judging.Heard.{Heard}
use Rattle.fr_bound.specs.declared.judging.Known.{Known}
use Rattle.fr_cluster.specs.Setting.{Setting}
use Rattle.fr_cluster.specs.Values.{Values}
use Rattle.fr_history.specs.Cycles.{Cycles}
use Rattle.fr_log.specs.View.{LogView}
use Rattle.fr_course.specs.declared.stamps.Delays.{Delays}
use Rattle.fr_observe.specs.Observing.{seen_doubles, senders_of}
use Rattle.fr_sightings.specs.Senders.{sightings_in}
use Rattle.fr_sightings.specs.Sightings.{sightings_of}
use Rattle.fr_sightings.specs.declared.sighting.Sighting.{Sighting}
use Rattle.fr_seen.specs.Clocks.{StraightClock}
use Rattle.fr_seen.specs.OwnSlots.{SlotsAreOwn}
use Rattle.fr_seen.specs.Contradictions.{IsAsLogStates, IsObservedRun}
use Rattle.fr_seen_runs.specs.Standings.{IsKnownOfLog, SpreadIsSo, Spreading, SpreadsAreSo, StandingsAreSo, StandsSo, log_spreads, log_standing, spread_row_of, spreads_from}
use Rattle.fr_seen_runs.specs.ToldFaults.{NoFaultIsTold, ToldFaultsAskEither, ToldFaultsAskJudged, ToldFaultsAskOwnSlots, VerdictTellsFirst, faults_from, log_faults}
use Rattle.fr_seen_runs.specs.NotContradicted.{NoRunHasOwnFaults, NoRunIsContradicted}
use Rattle.fr_observe.specs.declared.fault.Fault.{Fault}
use Rattle.fr_judging.specs.Knowing.{judged_met, judged_terms, known_missing, known_next, moving_faults, standing_faults, standing_of, term_faults}
use Rattle.fr_judging.specs.declared.knowing.Standing.{Standing}
use Rattle.fr_observe.specs.Faults.{asks_judged, asks_own_slots, first_of_faults, is_nil, slot_faults}
use Rattle.fr_findings.specs.Verdict.{Basis, DoubleCycle, double_at, faults_told, known_next_told, known_told, log_basis, log_progress, moving_told, no_progress, own_told, progress_behind, progress_told, standing_told, verdict_by, verdict_of, verdict_with}
use Rattle.fr_judging.specs.Hearing.{log_heard}
use Rattle.fr_findings.specs.declared.progress.Progress.{Progress}
use Rattle.fr_sightings.specs.Sightings.{OffendingFrames, irregular_of, offending_frames_of}
use Rattle.fr_findings.specs.declared.verdict.Verdict.TheVariants as verdict
use Rattle.fr_seen_runs.proofs.Asking.{AsksJudged, AsksOwnSlots, slot_faults_ask, standing_faults_ask}
use Rattle.fr_seen_runs.proofs.OwnFaults.{slot_faults_are_none}
use Rattle.fr_seen_runs.proofs.Progressing.{faults_left, first_is, seen_in_turn, told_all, told_from}
use Rattle.fr_seen_runs.proofs.ToldVerdicts.{fault_is_first}

-- ---- the first fault

first_all : (P : Fault → Type 0) (faults : List Fault) → All P faults → IfSome (first_of_faults faults) P
first_all P [] all = tt
first_all P (fault ∷ faults) all = All-head P fault faults all

-- where there are none at all, the first ones of them are none
front_none : (faults more : List Fault) → faults ++ more ≡ [] → faults ≡ []
front_none [] more none = refl
front_none (fault ∷ faults) more none = absurd (cc none)

module _ (x : Setting) (h : Cycles) (base : ℕ) (delays : ℕ → Channel → Delays) (clock : ℕ → StraightClock) (l : LogView) (run : IsObservedRun x h base delays clock l) where
  abbrev Seen : List Sighting
  Seen = sightings_of x.params l

  abbrev Offending : OffendingFrames
  Offending = offending_frames_of x.params l

  abbrev Irregular : ℕ → List Sighting
  Irregular double = sightings_in (irregular_of x.params l) double

  abbrev Log : Basis
  Log = log_basis x.params l

  abbrev At : ℕ → DoubleCycle
  At double = double_at Log Seen Offending double

  -- ---- what holds of faults of irregular frames, and of what is known, holds of all

  -- the faults of a double cycle, one after the other
  faults_are : (progress : Progress) (doubles : List ℕ) → told_from Log Seen Offending (λ double before. faults_told Log (At double) before.known) progress doubles ≡ faults_from Log Seen Offending progress doubles
  unfolding told_from faults_from
  faults_are progress [] = refl
  faults_are progress (double ∷ doubles) =
      ap (λ faults. faults_told Log (At double) progress.known ++ faults) (faults_are (progress_behind Log Seen Offending double progress) doubles)

  module _ (Q : Fault → Type 0) (slots : (double : ℕ) → All Q (slot_faults x.params (Irregular double))) (P : ℕ → Progress → Type 0) where
    abbrev KnownSteps : Type 0
    KnownSteps =
        (double : ℕ) (progress : Progress) → Contains (seen_doubles Seen) double → P double progress
        → All Q (known_told Log (At double) progress.known) × P (suc double) (progress_behind Log Seen Offending double progress)

    told_step : KnownSteps → (double : ℕ) (progress : Progress) → Contains (seen_doubles Seen) double → P double progress
        → All Q (faults_told Log (At double) progress.known) × P (suc double) (progress_behind Log Seen Offending double progress)
    told_step step double progress among known =
        let is = step double progress among known in (
          subst (All Q) (sym (faults_left x h base delays clock l run double progress.known among))
              (All-append Q (slot_faults x.params (Irregular double)) (known_told Log (At double) progress.known) (slots double) is.0),
          is.1,
        )

    pub told_are : KnownSteps → ((first : ℕ) → P first no_progress) → All Q (log_faults x.params l)
    unfolding log_faults
    told_are step first =
        subst (All Q) (faults_are no_progress (seen_doubles Seen))
        (told_all Log Seen Offending (λ double before. faults_told Log (At double) before.known) Q P (seen_doubles Seen) no_progress (seen_in_turn Seen) (told_step step) first)

  slots_ask : (double : ℕ) → All AsksOwnSlots (slot_faults x.params (Irregular double))
  slots_ask double = slot_faults_ask x.params (Irregular double)

  -- with own slots there is none of an irregular frame
  no_slots : (Q : Fault → Type 0) → SlotsAreOwn x h l → (double : ℕ) → All Q (slot_faults x.params (Irregular double))
  no_slots Q own double = subst (All Q) (sym (slot_faults_are_none x h l double own)) (All-nil Q)

  -- ---- faults that ask for no run as the log states

  known_asks : (double : ℕ) (progress : Progress) → All AsksJudged (known_told Log (At double) progress.known)
  unfolding known_told
  known_asks double progress =
      standing_faults_ask Log.params Log.scale Log.log Log.span (At double).before (At double).here (At double).number (At double).senders (standing_told Log (At double) progress.known)

  AsksEither : Fault → Type 0
  AsksEither fault = (asks_judged fault || asks_own_slots fault) ≡ true

  judged_either : (fault : Fault) → AsksJudged fault → AsksEither fault
  unfolding AsksEither
  judged_either fault asks = ap (λ judged. judged || asks_own_slots fault) asks

  slots_either : (fault : Fault) → AsksOwnSlots fault → AsksEither fault
  unfolding AsksEither
  slots_either fault asks = by (asks_judged fault) (asks_own_slots fault) asks
    where
      by : (judged slots : Bool) → slots ≡ true → (judged || slots) ≡ true
      by true slots is = refl
      by false slots is = is

  pub either_asks : All (λ fault. (asks_judged fault || asks_own_slots fault) ≡ true) (log_faults x.params l)
  unfolding AsksEither
  either_asks =
      told_are AsksEither (λ double. All-weaker AsksOwnSlots AsksEither slots_either (slot_faults x.params (Irregular double)) (slots_ask double)) (λ double progress. Unit {0})
      (λ double progress among known. (All-weaker AsksJudged AsksEither judged_either (known_told Log (At double) progress.known) (known_asks double progress), tt)) (λ first. tt)

  pub all_ask : SlotsAreOwn x h l → All AsksJudged (log_faults x.params l)
  all_ask own =
      told_are AsksJudged (no_slots AsksJudged own) (λ double progress. Unit {0})
      (λ double progress among known. (known_asks double progress, tt)) (λ first. tt)

  -- ---- no fault at all, where double cycles stand so

  -- behind each double cycle what is known of the next one is so
  abbrev IsKnown : ℕ → Progress → Type 0
  IsKnown double progress = IsKnownOfLog x h base double progress.known

  -- its numbers, where it is told what its nodes hear
  abbrev pub SpreadBy : Option Heard → Spreading → Type 0
  SpreadBy None s = Unit {0}
  SpreadBy (Some what) s = SpreadIsSo x h base l what s

  -- those that are within something stand so
  abbrev pub AreStanding : (ℕ → Type 0) → Type 0
  AreStanding Within =
      (what : Heard) (double : ℕ) (known : Option Known) (told : Option Fault) → Within double → log_heard x.params l ≡ Some what → IsKnownOfLog x h base double known
      → StandsSo x h base l what double (log_standing x l what double known told)

  module _ (Within : ℕ → Type 0) (standing : AreStanding Within) where
    -- what is known, by what its nodes hear
    standing_by : (double : ℕ) (heard : Option Heard) (known : Option Known) → Standing
    standing_by double heard known =
        standing_of x.params Log.scale l (At double).here (At double).number (At double).senders heard known (first_of_faults (own_told Log (At double)))

    faults_by : ℕ → Standing → List Fault
    faults_by double st = standing_faults x.params Log.scale l Log.span (At double).before (At double).here (At double).number (At double).senders st

    KnownSo : ℕ → Option Heard → Option Known → Type 0
    KnownSo double heard known =
        (faults_by double (standing_by double heard known) ≡ [])
        × ((All (SpreadBy heard) (spread_row_of double (judged_met (standing_by double heard known))))
        × IsKnownOfLog x h base (suc double) (known_next x.params l (standing_by double heard known) true))

    spread_listed : (what : Heard) (double : ℕ) (judged : Option Known) → IfSome judged (λ met. SpreadIsSo x h base l what (record { number = double; met = met }))
        → All (SpreadIsSo x h base l what) (spread_row_of double judged)
    spread_listed what double None is = All-nil (SpreadIsSo x h base l what)
    spread_listed what double (Some met) is = All-cons (SpreadIsSo x h base l what) (record { number = double; met = met }) [] is (All-nil (SpreadIsSo x h base l what))

    known_so : (double : ℕ) (heard : Option Heard) (known : Option Known) → log_heard x.params l ≡ heard → Within double → IsKnownOfLog x h base double known → KnownSo double heard known
    unfolding KnownSo faults_by standing_by standing_of standing_faults moving_faults term_faults judged_terms known_missing known_next double_at senders_of
    known_so double None known is within before = (refl, (All-nil (λ (s : Spreading). Unit {0}), tt))
    known_so double (Some what) known is within before =
        let stands = standing what double known (first_of_faults (own_told Log (At double))) within is before in
        (stands.faults, (spread_listed what double (judged_met (standing_by double (Some what) known)) stands.spread, stands.next))

    known_where : (double : ℕ) (progress : Progress) → Within double → IsKnownOfLog x h base double progress.known
        → (known_told Log (At double) progress.known ≡ [])
        × ((All (SpreadBy Log.heard) (spread_row_of double (judged_met (standing_told Log (At double) progress.known)))) × IsKnownOfLog x h base (suc double) (known_next_told Log (At double) progress.known))
    unfolding known_told moving_told standing_told standing_faults KnownSo faults_by standing_by
    known_where double progress within before =
        let is = known_so double Log.heard progress.known refl within before in
        let told = term_faults Log.params Log.scale Log.log Log.span (At double).before (At double).here (At double).number (At double).senders (standing_told Log (At double) progress.known) in
        let clear : is_nil (moving_told Log (At double) progress.known) ≡ true = ap is_nil (front_none (moving_told Log (At double) progress.known) told is.0) in
        (is.0, (is.1.0, subst (λ b. IsKnownOfLog x h base (suc double) (known_next x.params l (standing_told Log (At double) progress.known) b)) (sym clear) is.1.1))

    pub known_step : (Q : Fault → Type 0) (double : ℕ) (progress : Progress) → Within double → IsKnown double progress
        → All Q (known_told Log (At double) progress.known) × IsKnown (suc double) (progress_behind Log Seen Offending double progress)
    unfolding progress_told
    known_step Q double progress within before =
        let is = known_where double progress within before in
        (subst (All Q) (sym is.0) (All-nil Q), is.1.1)

  first_known : (first : ℕ) → IsKnown first no_progress
  first_known first = tt

  -- ---- where the run is as the log states

  module _ (states : IsAsLogStates x h base l) (judged : StandingsAreSo) where
    all_standing : AreStanding (Contains (seen_doubles Seen))
    all_standing what double known told among is before = judged x h base delays clock l what double known told run states is among before

    pub slots_told : All AsksOwnSlots (log_faults x.params l)
    slots_told = told_are AsksOwnSlots slots_ask IsKnown (known_step (Contains (seen_doubles Seen)) all_standing AsksOwnSlots) first_known

    -- ---- the rows of spread

    spreads_at : ℕ → Progress → List Spreading
    spreads_at double progress = spread_row_of double (judged_met (standing_told Log (At double) progress.known))

    spreads_are : (progress : Progress) (doubles : List ℕ) → told_from Log Seen Offending spreads_at progress doubles ≡ spreads_from Log Seen Offending progress doubles
    unfolding told_from spreads_from spreads_at
    spreads_are progress [] = refl
    spreads_are progress (double ∷ doubles) = ap (λ rows. spreads_at double progress ++ rows) (spreads_are (progress_behind Log Seen Offending double progress) doubles)

    spread_step : (double : ℕ) (progress : Progress) → Contains (seen_doubles Seen) double → IsKnown double progress
        → All (SpreadBy Log.heard) (spreads_at double progress) × IsKnown (suc double) (progress_behind Log Seen Offending double progress)
    unfolding progress_told spreads_at
    spread_step double progress among before = (known_where (Contains (seen_doubles Seen)) all_standing double progress among before).1

    pub spreads_told : All (SpreadBy Log.heard) (log_spreads x.params l)
    unfolding log_spreads
    spreads_told =
        subst (All (SpreadBy Log.heard)) (spreads_are no_progress (seen_doubles Seen))
        (told_all Log Seen Offending spreads_at (SpreadBy Log.heard) IsKnown (seen_doubles Seen) no_progress (seen_in_turn Seen) spread_step first_known)

    none_of : (faults : List Fault) → All (λ fault. ⊥) faults → faults ≡ []
    none_of [] all = refl
    none_of (fault ∷ faults) all = absurd (All-head (λ fault. ⊥) fault faults all)

    pub none_told : SlotsAreOwn x h l → log_faults x.params l ≡ []
    none_told own = none_of (log_faults x.params l) (told_are (λ fault. ⊥) (no_slots (λ fault. ⊥) own) IsKnown (known_step (Contains (seen_doubles Seen)) all_standing (λ fault. ⊥)) first_known)

pub told_faults_ask_either : ToldFaultsAskEither
told_faults_ask_either = either_asks

pub told_faults_ask_judged : ToldFaultsAskJudged
told_faults_ask_judged = all_ask

-- where double cycles stand so
pub told_faults_ask_own_slots : StandingsAreSo → ToldFaultsAskOwnSlots
told_faults_ask_own_slots judged x h base delays clock l run states = slots_told x h base delays clock l run states judged

pub no_fault_is_told : StandingsAreSo → NoFaultIsTold
no_fault_is_told judged x h base delays clock l run states own = none_told x h base delays clock l run states judged own

pub spreads_are_so : StandingsAreSo → SpreadsAreSo
spreads_are_so judged x h base delays clock l what run states is =
    subst (λ heard. All (SpreadBy x h base delays clock l run heard) (log_spreads x.params l)) is (spreads_told x h base delays clock l run states judged)

-- ---- the verdict

pub verdict_tells_first : VerdictTellsFirst
unfolding verdict_of verdict_by log_faults
verdict_tells_first p l fault =
    let seen = sightings_of p l in
    let offending = offending_frames_of p l in
    let progress = log_progress (log_basis p l) seen offending in
    let first : progress.first ≡ first_of_faults (log_faults p l) = first_is (log_basis p l) seen offending (seen_doubles seen) no_progress in (
      λ is. sym first ∙ fault_is_first progress fault progress.first is,
      λ is. ap (λ o. verdict_with o progress) (first ∙ is),
    )

-- what holds of all faults holds of that of a verdict
told_is : (Q : Fault → Type 0) (p : Values) (l : LogView) (fault : Fault) → verdict_of p l ≡ verdict.No fault → All Q (log_faults p l) → Q fault
told_is Q p l fault is all = subst (λ o. IfSome o Q) ((verdict_tells_first p l fault).0 is) (first_all Q (log_faults p l) all)

pub no_run_has_own_faults : NoRunHasOwnFaults
no_run_has_own_faults x h base delays clock l fault run own is =
    by (asks_own_slots fault) refl (asks_judged fault) refl (told_is Either x.params l fault is (either_asks x h base delays clock l run))
  where
    Either : Fault → Type 0
    Either fault = (asks_judged fault || asks_own_slots fault) ≡ true

    by : (slots : Bool) → asks_own_slots fault ≡ slots → (judged : Bool) → asks_judged fault ≡ judged → (judged || slots) ≡ true → asks_judged fault ≡ true
    by true asks judged of_judged told = told_is AsksJudged x.params l fault is (all_ask x h base delays clock l run (own asks))
    by false asks true of_judged told = of_judged
    by false asks false of_judged told = absurd (cc told)

pub none_is_contradicted : StandingsAreSo → NoRunIsContradicted
none_is_contradicted judged x h base delays clock l fault run states own is =
    let asks = told_is AsksOwnSlots x.params l fault is (slots_told x h base delays clock l run states judged) in
    never fault (sym (ap first_of_faults (none_told x h base delays clock l run states judged (own asks))) ∙ (verdict_tells_first x.params l fault).0 is)
  where
    never : (fault : Fault) → None ≡ Some fault → ⊥
    never fault is = cc is
