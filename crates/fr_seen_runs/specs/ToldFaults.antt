-- All faults that the text of a log tells: what they exclude, and that its verdict is by the first of them.
use Rattle.std.specs.Prelude.{◌≡◌, ◌↔◌, ◌||◌, ℕ, true, List, [], ◌∷◌, ◌++◌, All, Some}
use Rattle.fr_base.specs.declared.channel.Channel.{Channel}
use Rattle.fr_cluster.specs.Setting.{Setting}
use Rattle.fr_cluster.specs.Values.{Values}
use Rattle.fr_history.specs.Cycles.{Cycles}
use Rattle.fr_log.specs.View.{LogView}
use Rattle.fr_course.specs.declared.stamps.Delays.{Delays}
use Rattle.fr_sightings.specs.Sightings.{OffendingFrames, offending_frames_of, sightings_of}
use Rattle.fr_sightings.specs.declared.sighting.Sighting.{Sighting}
use Rattle.fr_observe.specs.Faults.{asks_judged, asks_own_slots, first_of_faults}
use Rattle.fr_observe.specs.Observing.{seen_doubles}
use Rattle.fr_observe.specs.declared.fault.Fault.{Fault}
use Rattle.fr_findings.specs.Verdict.{Basis, double_faults, log_basis, no_progress, progress_behind, verdict_of}
use Rattle.fr_findings.specs.declared.progress.Progress.{Progress}
use Rattle.fr_findings.specs.declared.verdict.Verdict.TheVariants as verdict
use Rattle.fr_seen.specs.Clocks.{StraightClock}
use Rattle.fr_seen.specs.OwnSlots.{SlotsAreOwn}
use Rattle.fr_seen.specs.Contradictions.{IsAsLogStates, IsObservedRun}

-- those of some double cycles, one after the other: each by what is known behind it
unfoldable pub faults_from : Basis → List Sighting → OffendingFrames → Progress → List ℕ → List Fault
faults_from b seen offending progress [] = []
faults_from b seen offending progress (double ∷ doubles) =
    double_faults b seen offending double progress.known
    ++ faults_from b seen offending (progress_behind b seen offending double progress) doubles

-- of all of a log
unfoldable pub log_faults : Values → LogView → List Fault
log_faults p l =
    faults_from (log_basis p l) (sightings_of p l) (offending_frames_of p l) no_progress (seen_doubles (sightings_of p l))

-- a log that is seen of a run, as it states, has none where each whole frame in the slot of a node is one that the node
-- sends; and wherever it is seen of one it has only such as ask for that
abbrev pub NoFaultIsTold : Type 0
NoFaultIsTold =
    (x : Setting) (h : Cycles) (base : ℕ) (delays : ℕ → Channel → Delays) (clock : ℕ → StraightClock) (l : LogView)
    → IsObservedRun x h base delays clock l → IsAsLogStates x h base l → SlotsAreOwn x h l → log_faults x.params l ≡ []

abbrev pub ToldFaultsAskOwnSlots : Type 0
ToldFaultsAskOwnSlots =
    (x : Setting) (h : Cycles) (base : ℕ) (delays : ℕ → Channel → Delays) (clock : ℕ → StraightClock) (l : LogView)
    → IsObservedRun x h base delays clock l → IsAsLogStates x h base l
    → All (λ fault. asks_own_slots fault ≡ true) (log_faults x.params l)

-- one that is seen of any run has only such as ask for runs as the log states, where its slots are own; and wherever it is seen of
-- one, only such as ask for these or for that
abbrev pub ToldFaultsAskJudged : Type 0
ToldFaultsAskJudged =
    (x : Setting) (h : Cycles) (base : ℕ) (delays : ℕ → Channel → Delays) (clock : ℕ → StraightClock) (l : LogView)
    → IsObservedRun x h base delays clock l → SlotsAreOwn x h l
    → All (λ fault. asks_judged fault ≡ true) (log_faults x.params l)

abbrev pub ToldFaultsAskEither : Type 0
ToldFaultsAskEither =
    (x : Setting) (h : Cycles) (base : ℕ) (delays : ℕ → Channel → Delays) (clock : ℕ → StraightClock) (l : LogView)
    → IsObservedRun x h base delays clock l
    → All (λ fault. (asks_judged fault || asks_own_slots fault) ≡ true) (log_faults x.params l)

-- the verdict is no exactly where there is one, and tells the first
abbrev pub VerdictTellsFirst : Type 0
VerdictTellsFirst =
    (p : Values) (l : LogView) (fault : Fault)
    → (verdict_of p l ≡ verdict.No fault) ↔ (first_of_faults (log_faults p l) ≡ Some fault)
