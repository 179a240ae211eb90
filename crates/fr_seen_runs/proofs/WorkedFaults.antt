-- The worked contradictions, computed; and what no run is seen of.
use Rattle.std.proofs.Common.{◌≡◌, ◌∙◌, ◌<◌, ◌≤◌, ℕ, ◌+◌, pos, true, false, None, Some, List, [], ◌∷◌, refl, sym, ap, lit≤, lit<}
use Rattle.fr_bound.specs.declared.judging.Heard.TheVariants.{Clean}
use Rattle.std.proofs.lemmas.List.Elements.{All-cons, All-nil}
use Rattle.fr_base.specs.declared.channel.Channel.{Channel}
use Rattle.fr_base.specs.declared.channel.Channel.TheVariants.{A, B}
use Rattle.fr_cluster.specs.Setting.{Setting}
use Rattle.fr_cluster.specs.Values.{Values}
use Rattle.fr_history.specs.Cycles.{Cycles}
use Rattle.fr_history.proofs.Computing.{on_frames}
use Rattle.fr_log.specs.Rows.{AreEntryBytes}
use Rattle.fr_log.specs.View.{IsEntry, IsLog, LogView, is_arbitrary_in}
use Rattle.fr_log.specs.declared.entry.Entry.{Entry}
use Rattle.fr_course.specs.Readings.{reading_scale}
use Rattle.fr_course.specs.declared.stamps.Delays.{Delays}
use Rattle.fr_observe.specs.Faults.{asks_own_slots, asks_judged}
use Rattle.fr_observe.specs.declared.fault.Fault.{Fault}
use Rattle.fr_sightings.specs.Judging.{judgement_of}
use Rattle.fr_sightings.specs.Sightings.{OffendingFrames, fate_of, fates_from, irregular_of, offending_frames_of, sightings_of, untimely_of}
use Rattle.fr_sightings.specs.declared.sighting.Sighting.{Sighting}
use Rattle.fr_findings.specs.Verdict.{Basis, log_basis, log_progress, verdict_by, verdict_of}
use Rattle.fr_judging.specs.Hearing.{log_heard}
use Rattle.fr_findings.specs.declared.verdict.Verdict.TheVariants as verdict
use Rattle.fr_seen.specs.Clocks.{StraightClock}
use Rattle.fr_seen.specs.OwnSlots.{SlotsAreOwn}
use Rattle.fr_seen.specs.Contradictions.{IsAsLogStates, IsObservedRun}
use Rattle.fr_seen_runs.specs.NotContradicted.{NoRunHasOwnFaults, NoRunIsContradicted}
use Rattle.fr_seen_runs.specs.WorkedFaults.{IsSeenOfNone, IsSeenOfNoneWithOwnSlots, TellsFault, correction_told, form_entry, form_told, last_entry, last_log, late_entry, late_log, offset_told, stranger_entry, stranger_told}
use Rattle.fr_seen_runs.specs.WorkedLog.{by_double, entry_sighting, of_each, of_node, seen_cluster}
use Rattle.fr_seen_runs.proofs.WorkedSeen.{all_of, bytes_of_1, bytes_of_2, log_with}
use Rattle.fr_seen_runs.proofs.WorkedVerdict.{none_offending, on_doubles, on_faults, on_numbers, on_rows, on_senders}

-- ---- sightings

unfoldable pub late_sighting : ℕ → ℕ → ℕ → Sighting
late_sighting later node cycle =
    let sighting : Sighting = entry_sighting node cycle in
    record sighting { stamp = sighting.stamp + by_double cycle 0 (of_node node 0 later) }

abbrev late_basis : ℕ → Basis
late_basis later = record {
  precision = pos 45_007_594;
  scale = reading_scale 0 seen_cluster;
  params = seen_cluster;
  log = late_log later;
  span = record { first = 0; last = 3 };
  heard = Some Clean;
}

-- ---- late by 250 units

offset_sightings : sightings_of seen_cluster (late_log 250) ≡ of_each (late_sighting 250)
unfolding late_sighting sightings_of fates_from fate_of judgement_of is_arbitrary_in on_frames
offset_sightings = refl

offset_offending : offending_frames_of seen_cluster (late_log 250) ≡ none_offending
unfolding untimely_of irregular_of fates_from fate_of judgement_of is_arbitrary_in on_frames
offset_offending = refl

offset_basis : log_basis seen_cluster (late_log 250) ≡ late_basis 250
unfolding late_sighting log_heard is_arbitrary_in
offset_basis = Prim.rw offset_sightings refl

offset_progress : verdict_by (log_progress (late_basis 250) (of_each (late_sighting 250)) none_offending) ≡ verdict.No offset_told
unfolding late_sighting on_numbers on_doubles on_senders on_faults on_rows
offset_progress = refl

offset_verdict : verdict_of seen_cluster (late_log 250) ≡ verdict.No offset_told
unfolding verdict_of
offset_verdict = Prim.rw (offset_basis, offset_sightings, offset_offending) offset_progress

offset_log : IsLog (late_log 250)
offset_log =
    log_with None false (late_entry 250) tt
    (
    all_of (IsEntry 40_000) (late_entry 250)
    (record { stamp = lit≤ tt; bytes = bytes_of_1 0 (lit< tt) })
    (record { stamp = lit≤ tt; bytes = bytes_of_2 192 (lit< tt) })
    (record { stamp = lit≤ tt; bytes = bytes_of_1 1 (lit< tt) })
    (record { stamp = lit≤ tt; bytes = bytes_of_2 193 (lit< tt) })
    (record { stamp = lit≤ tt; bytes = bytes_of_1 2 (lit< tt) })
    (record { stamp = lit≤ tt; bytes = bytes_of_2 194 (lit< tt) })
    (record { stamp = lit≤ tt; bytes = bytes_of_1 3 (lit< tt) })
    (record { stamp = lit≤ tt; bytes = bytes_of_2 195 (lit< tt) })
    )
    (record { first = lit≤ tt; second = lit≤ tt; third = lit≤ tt; fourth = lit≤ tt; fifth = lit≤ tt; sixth = lit≤ tt; last = lit≤ tt })

pub offset_is_told : TellsFault (late_log 250) offset_told
offset_is_told = record { log = offset_log; verdict = offset_verdict }

-- ---- late by 7_500 units

correction_sightings : sightings_of seen_cluster (late_log 7_500) ≡ of_each (late_sighting 7_500)
unfolding late_sighting sightings_of fates_from fate_of judgement_of is_arbitrary_in on_frames
correction_sightings = refl

correction_offending : offending_frames_of seen_cluster (late_log 7_500) ≡ none_offending
unfolding untimely_of irregular_of fates_from fate_of judgement_of is_arbitrary_in on_frames
correction_offending = refl

correction_basis : log_basis seen_cluster (late_log 7_500) ≡ late_basis 7_500
unfolding late_sighting log_heard is_arbitrary_in
correction_basis = Prim.rw correction_sightings refl

correction_progress : verdict_by (log_progress (late_basis 7_500) (of_each (late_sighting 7_500)) none_offending) ≡ verdict.No correction_told
unfolding late_sighting on_numbers on_doubles on_senders on_faults on_rows
correction_progress = refl

correction_verdict : verdict_of seen_cluster (late_log 7_500) ≡ verdict.No correction_told
unfolding verdict_of
correction_verdict = Prim.rw (correction_basis, correction_sightings, correction_offending) correction_progress

correction_log : IsLog (late_log 7_500)
correction_log =
    log_with None false (late_entry 7_500) tt
    (
    all_of (IsEntry 40_000) (late_entry 7_500)
    (record { stamp = lit≤ tt; bytes = bytes_of_1 0 (lit< tt) })
    (record { stamp = lit≤ tt; bytes = bytes_of_2 192 (lit< tt) })
    (record { stamp = lit≤ tt; bytes = bytes_of_1 1 (lit< tt) })
    (record { stamp = lit≤ tt; bytes = bytes_of_2 193 (lit< tt) })
    (record { stamp = lit≤ tt; bytes = bytes_of_1 2 (lit< tt) })
    (record { stamp = lit≤ tt; bytes = bytes_of_2 194 (lit< tt) })
    (record { stamp = lit≤ tt; bytes = bytes_of_1 3 (lit< tt) })
    (record { stamp = lit≤ tt; bytes = bytes_of_2 195 (lit< tt) })
    )
    (record { first = lit≤ tt; second = lit≤ tt; third = lit≤ tt; fourth = lit≤ tt; fifth = lit≤ tt; sixth = lit≤ tt; last = lit≤ tt })

pub correction_is_told : TellsFault (late_log 7_500) correction_told
correction_is_told = record { log = correction_log; verdict = correction_verdict }

-- ---- another last frame

-- what is seen but for that frame
abbrev pub first_sightings : List Sighting
first_sightings =
    entry_sighting 1 0 ∷ entry_sighting 2 0 ∷ entry_sighting 1 1 ∷ entry_sighting 2 1 ∷ entry_sighting 1 2 ∷ entry_sighting 2 2 ∷ entry_sighting 1 3 ∷ []

abbrev last_basis : Entry → Basis
last_basis last = record {
  precision = pos 45_007_594;
  scale = reading_scale 0 seen_cluster;
  params = seen_cluster;
  log = last_log last;
  span = record { first = 0; last = 3 };
  heard = Some Clean;
}

-- it is a log where that frame comes no earlier than the one before it
last_log_is : (last : Entry) → IsEntry 40_000 last → 15_007_025 ≤ last.stamp → IsLog (last_log last)
last_log_is last entry later =
    log_with None false (last_entry last) tt
    (
    all_of (IsEntry 40_000) (last_entry last)
    (record { stamp = lit≤ tt; bytes = bytes_of_1 0 (lit< tt) })
    (record { stamp = lit≤ tt; bytes = bytes_of_2 192 (lit< tt) })
    (record { stamp = lit≤ tt; bytes = bytes_of_1 1 (lit< tt) })
    (record { stamp = lit≤ tt; bytes = bytes_of_2 193 (lit< tt) })
    (record { stamp = lit≤ tt; bytes = bytes_of_1 2 (lit< tt) })
    (record { stamp = lit≤ tt; bytes = bytes_of_2 194 (lit< tt) })
    (record { stamp = lit≤ tt; bytes = bytes_of_1 3 (lit< tt) })
    entry
    )
    (record { first = lit≤ tt; second = lit≤ tt; third = lit≤ tt; fourth = lit≤ tt; fifth = lit≤ tt; sixth = lit≤ tt; last = later })

-- which is irregular
abbrev irregular_on : Channel → OffendingFrames
irregular_on ch = let frame : Sighting = entry_sighting 2 3 in record { untimely = []; irregular = (record frame { channel = ch }) ∷ [] }

abbrev stranger_frames : OffendingFrames
stranger_frames = irregular_on B

abbrev form_frames : OffendingFrames
form_frames = irregular_on A

-- ---- on another channel

stranger_sightings : sightings_of seen_cluster (last_log stranger_entry) ≡ first_sightings
unfolding sightings_of fates_from fate_of judgement_of is_arbitrary_in on_frames
stranger_sightings = refl

stranger_offending : offending_frames_of seen_cluster (last_log stranger_entry) ≡ stranger_frames
unfolding untimely_of irregular_of fates_from fate_of judgement_of is_arbitrary_in on_frames
stranger_offending = refl

stranger_basis : log_basis seen_cluster (last_log stranger_entry) ≡ last_basis stranger_entry
unfolding log_heard is_arbitrary_in
stranger_basis = Prim.rw stranger_sightings refl

stranger_progress : verdict_by (log_progress (last_basis stranger_entry) first_sightings stranger_frames) ≡ verdict.No stranger_told
unfolding on_numbers on_doubles on_senders on_faults on_rows
stranger_progress = refl

stranger_verdict : verdict_of seen_cluster (last_log stranger_entry) ≡ verdict.No stranger_told
unfolding verdict_of
stranger_verdict = Prim.rw (stranger_basis, stranger_sightings, stranger_offending) stranger_progress

stranger_log : IsLog (last_log stranger_entry)
stranger_log = last_log_is stranger_entry (record { stamp = lit≤ tt; bytes = bytes_of_2 195 (lit< tt) }) (lit≤ tt)

pub stranger_is_told : TellsFault (last_log stranger_entry) stranger_told
stranger_is_told = record { log = stranger_log; verdict = stranger_verdict }

-- ---- of another form

form_sightings : sightings_of seen_cluster (last_log form_entry) ≡ first_sightings
unfolding sightings_of fates_from fate_of judgement_of is_arbitrary_in on_frames
form_sightings = refl

form_offending : offending_frames_of seen_cluster (last_log form_entry) ≡ form_frames
unfolding untimely_of irregular_of fates_from fate_of judgement_of is_arbitrary_in on_frames
form_offending = refl

form_basis : log_basis seen_cluster (last_log form_entry) ≡ last_basis form_entry
unfolding log_heard is_arbitrary_in
form_basis = Prim.rw form_sightings refl

form_progress : verdict_by (log_progress (last_basis form_entry) first_sightings form_frames) ≡ verdict.No form_told
unfolding on_numbers on_doubles on_senders on_faults on_rows
form_progress = refl

form_verdict : verdict_of seen_cluster (last_log form_entry) ≡ verdict.No form_told
unfolding verdict_of
form_verdict = Prim.rw (form_basis, form_sightings, form_offending) form_progress

form_bytes : AreEntryBytes form_entry.bytes
form_bytes = record {
  few = lit≤ tt;
  small =
      All-cons (λ b. b < 256) 32 (2 ∷ 1 ∷ 32 ∷ 3 ∷ []) (lit< tt)
      (All-cons (λ b. b < 256) 2 (1 ∷ 32 ∷ 3 ∷ []) (lit< tt)
      (All-cons (λ b. b < 256) 1 (32 ∷ 3 ∷ []) (lit< tt)
      (All-cons (λ b. b < 256) 32 (3 ∷ []) (lit< tt) (All-cons (λ b. b < 256) 3 [] (lit< tt) (All-nil (λ b. b < 256))))));
}

form_log : IsLog (last_log form_entry)
form_log = last_log_is form_entry (record { stamp = lit≤ tt; bytes = form_bytes }) (lit≤ tt)

pub form_is_told : TellsFault (last_log form_entry) form_told
form_is_told = record { log = form_log; verdict = form_verdict }

-- ---- so no run gives it

-- that is as the log states, of whatever cluster
pub none_stated :
    NoRunIsContradicted → (p : Values) (l : LogView) (fault : Fault) → asks_own_slots fault ≡ false → verdict_of p l ≡ verdict.No fault
    → (x : Setting) (h : Cycles) (base : ℕ) (delays : ℕ → Channel → Delays) (clock : ℕ → StraightClock) → x.params ≡ p
    → IsObservedRun x h base delays clock l → IsAsLogStates x h base l → ⊥
none_stated law p l fault slots told x h base delays clock same observed stated =
    law x h base delays clock l fault observed stated (λ asks. let e : true ≡ false = sym asks ∙ slots in absurd (cc e)) (ap (λ q. verdict_of q l) same ∙ told)

-- where the slots are own, or the fault does not ask for it
none_where :
    NoRunHasOwnFaults → (l : LogView) (fault : Fault) → asks_judged fault ≡ false → verdict_of seen_cluster l ≡ verdict.No fault
    → (x : Setting) (h : Cycles) (base : ℕ) (delays : ℕ → Channel → Delays) (clock : ℕ → StraightClock) → x.params ≡ seen_cluster
    → IsObservedRun x h base delays clock l → (asks_own_slots fault ≡ true → SlotsAreOwn x h l) → ⊥
none_where law l fault asks told x h base delays clock same observed own =
    let e : false ≡ true = sym asks ∙ law x h base delays clock l fault observed own (ap (λ p. verdict_of p l) same ∙ told) in cc e

pub none_at_all :
    NoRunHasOwnFaults → (l : LogView) (fault : Fault) → asks_judged fault ≡ false → asks_own_slots fault ≡ false
    → verdict_of seen_cluster l ≡ verdict.No fault → IsSeenOfNone l
none_at_all law l fault asks slots told x h base delays clock same observed =
    none_where law l fault asks told x h base delays clock same observed (λ own. let e : true ≡ false = sym own ∙ slots in absurd (cc e))

pub none_with_own_slots :
    NoRunHasOwnFaults → (l : LogView) (fault : Fault) → asks_judged fault ≡ false → verdict_of seen_cluster l ≡ verdict.No fault
    → IsSeenOfNoneWithOwnSlots l
none_with_own_slots law l fault asks told x h base delays clock same observed own =
    none_where law l fault asks told x h base delays clock same observed (λ asked. own)
