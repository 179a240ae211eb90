-- No fault that any run excludes is told of a log that is seen of a run.
use Rattle.std.proofs.Common.{◌≡◌, ℕ, List, [], ◌++◌, map, ap, ◌∙◌}
use Rattle.std.specs.Prelude.{filter_map}
use Rattle.std.specs.List.{flat_map}
use Rattle.fr_base.specs.declared.channel.Channel.{Channel}
use Rattle.fr_cluster.specs.Setting.{Setting}
use Rattle.fr_history.specs.Cycles.{Cycles}
use Rattle.fr_log.specs.View.{LogView}
use Rattle.fr_course.specs.Readings.{reading_scale}
use Rattle.fr_course.specs.declared.stamps.Delays.{Delays}
use Rattle.fr_sightings.specs.Senders.{sightings_in}
use Rattle.fr_sightings.specs.Sightings.{sightings_of}
use Rattle.fr_seen.specs.Clocks.{StraightClock}
use Rattle.fr_seen.specs.LogSeen.{log_senders}
use Rattle.fr_seen.proofs.OwnSlotLaws.{no_frame_is_irregular}
use Rattle.fr_seen.proofs.SightingLaws.{no_frame_is_untimely}
use Rattle.fr_seen.specs.Contradictions.{IsObservedRun}
use Rattle.fr_observe.specs.Faults.{correction_fault, cycle_fault, irregular_fault, node_faults, own_faults, slot_faults, twice_fault}
use Rattle.fr_sightings.specs.Sightings.{untimely_of}
use Rattle.fr_seen_runs.specs.NotContradicted.{OwnFaultsAreNone, SlotFaultsAreNone}
use Rattle.fr_seen.proofs.SeenDoubles.{seen_double_there}
use Rattle.fr_seen_runs.proofs.OwnClocks.{nodes_none}
use Rattle.fr_seen_runs.proofs.OwnSightings.{corrections_none, twices_none}

-- no frame of such a log is untimely
none_untimely : (x : Setting) (h : Cycles) (base : ℕ) (delays : ℕ → Channel → Delays) (clock : ℕ → StraightClock) (l : LogView) → IsObservedRun x h base delays clock l
    → untimely_of x.params l ≡ []
none_untimely x h base delays clock l run = no_frame_is_untimely x h base delays clock l run.timed.sane run.log run.seen

pub none_of_four : {X : Type 0} (a b c d : List X) → a ≡ [] → b ≡ [] → c ≡ [] → d ≡ [] → a ++ b ++ c ++ d ≡ []
none_of_four a b c d e f g i = ap (λ z. z ++ b ++ c ++ d) e ∙ ap (λ z. z ++ c ++ d) f ∙ ap (λ z. z ++ d) g ∙ i

pub own_faults_are_none : OwnFaultsAreNone
unfolding own_faults
own_faults_are_none x h base delays clock l double run among =
    let p = x.params in
    let scale = reading_scale l.drift p in
    let here = sightings_in (sightings_of p l) double in
    let late = sightings_in (untimely_of p l) double in
    let senders = log_senders x l double in
    let there = seen_double_there x h base delays clock l run double among in
    none_of_four (flat_map (node_faults scale l here double) p.nodes) (filter_map (correction_fault p scale double) senders) (filter_map (twice_fault here) here) (map cycle_fault late)
    (nodes_none x h base delays clock l run double) (corrections_none x h base delays clock l run double there) (twices_none x h base delays clock l run double)
    (ap (λ seen. map cycle_fault (sightings_in seen double)) (none_untimely x h base delays clock l run))

-- nor an irregular frame where slots are own
pub slot_faults_are_none : SlotFaultsAreNone
unfolding slot_faults
slot_faults_are_none x h l double own = ap (λ seen. map (irregular_fault x.params) (sightings_in seen double)) (no_frame_is_irregular x h l own)
