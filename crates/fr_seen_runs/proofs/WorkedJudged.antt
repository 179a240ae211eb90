-- The worked log of a cluster in which a classical check fails, computed.
use Rattle.std.proofs.Common.{◌≡◌, ℕ, pos, None, Some, List, [], ◌∷◌, refl}
use Rattle.std.specs.Prelude.{codes}
use Rattle.std.specs.Fmt.{digits}
use Rattle.fr_bound.specs.declared.judging.Heard.TheVariants.{Clean, Poor}
use Rattle.fr_history.proofs.Computing.{on_frames}
use Rattle.fr_log.specs.View.{LogView, is_arbitrary_in}
use Rattle.fr_course.specs.Readings.{reading_scale}
use Rattle.fr_observe.specs.Observing.{senders_of}
use Rattle.fr_judging.specs.Knowing.{spread_row, spread_told}
use Rattle.fr_judging.specs.Missing.{missed_row, missed_told}
use Rattle.fr_sightings.specs.Judging.{judgement_of}
use Rattle.fr_sightings.specs.Sightings.{fate_of, fates_from, irregular_of, offending_frames_of, sightings_of, untimely_of}
use Rattle.fr_sightings.specs.declared.sighting.Sighting.{Sighting}
use Rattle.fr_judging.specs.Hearing.{log_heard}
use Rattle.fr_findings.specs.Verdict.{Basis, double_at, known_next_told, log_basis, log_progress, standing_told, verdict_by, verdict_of}
use Rattle.fr_findings.specs.declared.verdict.Verdict.TheVariants as verdict
use Rattle.fr_seen_runs.specs.WorkedFaults.{late_log, offset_told}
use Rattle.fr_seen_runs.specs.WorkedJudged.{JudgedLog, JudgedOffsetIsTold, LostLog, MissedLog, first_met, judged_by_numbers, judged_cluster, judged_log, log_stands, log_tells_next, lost_log, lost_offset_told, missed_log, missed_partly, second_known, second_met}
use Rattle.fr_seen_runs.specs.WorkedLog.{entry_sighting, of_each, seen_sightings}
use Rattle.fr_seen_runs.proofs.WorkedFaults.{late_sighting}
use Rattle.fr_seen_runs.proofs.WorkedVerdict.{none_offending, on_doubles, on_faults, on_numbers, on_rows, on_senders}

-- ---- its sightings

sightings_are : sightings_of judged_cluster judged_log ≡ seen_sightings
unfolding sightings_of fates_from fate_of judgement_of is_arbitrary_in on_frames
sightings_are = refl

none_offend : offending_frames_of judged_cluster judged_log ≡ none_offending
unfolding untimely_of irregular_of fates_from fate_of judgement_of is_arbitrary_in on_frames
none_offend = refl

pub hears_all : log_heard judged_cluster judged_log ≡ Some Clean
unfolding log_heard is_arbitrary_in
hears_all = refl

-- but for the frame of node 1 in cycle 2
abbrev missed_sightings : List Sighting
missed_sightings =
    entry_sighting 1 0 ∷ entry_sighting 2 0 ∷ entry_sighting 1 1 ∷ entry_sighting 2 1 ∷ entry_sighting 2 2 ∷ entry_sighting 1 3 ∷ entry_sighting 2 3 ∷ []

-- ---- its double cycles

-- what the log is judged by besides its sightings
abbrev judged_basis : LogView → Basis
judged_basis l = record {
  precision = pos 45_007_594;
  scale = reading_scale 0 judged_cluster;
  params = judged_cluster;
  log = l;
  span = record { first = 0; last = 3 };
  heard = Some Clean;
}

basis_is : log_basis judged_cluster judged_log ≡ judged_basis judged_log
unfolding log_heard is_arbitrary_in
basis_is = Prim.rw sightings_are refl

first_by : standing_told (judged_basis judged_log) (double_at (judged_basis judged_log) seen_sightings none_offending 0) None ≡ judged_by_numbers None first_met
unfolding on_numbers on_doubles on_senders on_faults on_rows
first_by = refl

first_is : log_stands judged_cluster judged_log 0 None ≡ judged_by_numbers None first_met
first_is = Prim.rw (basis_is, sightings_are, none_offend) first_by

next_by : known_next_told (judged_basis judged_log) (double_at (judged_basis judged_log) seen_sightings none_offending 0) None ≡ Some second_known
unfolding on_numbers on_doubles on_senders on_faults on_rows
next_by = refl

next_is : log_tells_next judged_cluster judged_log 0 None ≡ Some second_known
next_is = Prim.rw (basis_is, sightings_are, none_offend) next_by

second_by :
    standing_told (judged_basis judged_log) (double_at (judged_basis judged_log) seen_sightings none_offending 1) (Some second_known)
    ≡ judged_by_numbers (Some second_known) second_met
unfolding on_numbers on_doubles on_senders on_faults on_rows
second_by = refl

second_is : log_stands judged_cluster judged_log 1 (Some second_known) ≡ judged_by_numbers (Some second_known) second_met
second_is = Prim.rw (basis_is, sightings_are, none_offend) second_by

-- ---- as rows

first_row_is : spread_told judged_cluster judged_log 0 (judged_by_numbers None first_met) ≡ codes "spread,0,3520552,80000,0,5680952,,\n"
unfolding spread_told spread_row digits
first_row_is = refl

second_row_is : spread_told judged_cluster judged_log 1 (judged_by_numbers (Some second_known) second_met) ≡ codes "spread,1,1520552,80000,0,5080800,,\n"
unfolding spread_told spread_row digits
second_row_is = refl

-- ---- its verdict

verdict_by_progress :
    verdict_by (log_progress (judged_basis judged_log) seen_sightings none_offending) ≡ verdict.Within (record { from = 0; to = 2 })
unfolding on_numbers on_doubles on_senders on_faults on_rows
verdict_by_progress = refl

verdict_is : verdict_of judged_cluster judged_log ≡ verdict.Within (record { from = 0; to = 2 })
unfolding verdict_of
verdict_is = Prim.rw (basis_is, sightings_are, none_offend) verdict_by_progress

pub judged_log_is : JudgedLog
judged_log_is = record {
  check = refl;
  heard = hears_all;
  first = first_is;
  next = next_is;
  second = second_is;
  first_row = Prim.rw first_is first_row_is;
  second_row = Prim.rw second_is second_row_is;
  verdict = verdict_is;
}

-- ---- where a frame was missed

missed_sightings_are : sightings_of judged_cluster missed_log ≡ missed_sightings
unfolding sightings_of fates_from fate_of judgement_of is_arbitrary_in on_frames
missed_sightings_are = refl

missed_offending : offending_frames_of judged_cluster missed_log ≡ none_offending
unfolding untimely_of irregular_of fates_from fate_of judgement_of is_arbitrary_in on_frames
missed_offending = refl

missed_basis_is : log_basis judged_cluster missed_log ≡ judged_basis missed_log
unfolding log_heard is_arbitrary_in
missed_basis_is = Prim.rw missed_sightings_are refl

missed_next_by : known_next_told (judged_basis missed_log) (double_at (judged_basis missed_log) missed_sightings none_offending 0) None ≡ Some second_known
unfolding on_numbers on_doubles on_senders on_faults on_rows
missed_next_by = refl

missed_second_by :
    standing_told (judged_basis missed_log) (double_at (judged_basis missed_log) missed_sightings none_offending 1) (Some second_known)
    ≡ judged_by_numbers (Some second_known) second_known
unfolding on_numbers on_doubles on_senders on_faults on_rows
missed_second_by = refl

missed_second_is : log_stands judged_cluster missed_log 1 (Some second_known) ≡ judged_by_numbers (Some second_known) second_known
missed_second_is = Prim.rw (missed_basis_is, missed_sightings_are, missed_offending) missed_second_by

missed_row_is : spread_told judged_cluster missed_log 1 (judged_by_numbers (Some second_known) second_known) ≡ codes "spread,1,4080600,13002198,0,32085396,,\n"
unfolding spread_told spread_row digits
missed_row_is = refl

missed_progress : verdict_by (log_progress (judged_basis missed_log) missed_sightings none_offending) ≡ missed_partly
unfolding on_numbers on_doubles on_senders on_faults on_rows
missed_progress = refl

missed_verdict_is : verdict_of judged_cluster missed_log ≡ missed_partly
unfolding verdict_of
missed_verdict_is = Prim.rw (missed_basis_is, missed_sightings_are, missed_offending) missed_progress

pub missed_log_is : MissedLog
missed_log_is = record {
  next = Prim.rw (missed_basis_is, missed_sightings_are, missed_offending) missed_next_by;
  second = missed_second_is;
  second_row = Prim.rw missed_second_is missed_row_is;
  verdict = missed_verdict_is;
}

-- ---- where node 2 is late

late_sightings : sightings_of judged_cluster (late_log 250) ≡ of_each (late_sighting 250)
unfolding late_sighting sightings_of fates_from fate_of judgement_of is_arbitrary_in on_frames
late_sightings = refl

late_offending : offending_frames_of judged_cluster (late_log 250) ≡ none_offending
unfolding untimely_of irregular_of fates_from fate_of judgement_of is_arbitrary_in on_frames
late_offending = refl

late_basis_is : log_basis judged_cluster (late_log 250) ≡ judged_basis (late_log 250)
unfolding late_sighting log_heard is_arbitrary_in
late_basis_is = Prim.rw late_sightings refl

late_progress : verdict_by (log_progress (judged_basis (late_log 250)) (of_each (late_sighting 250)) none_offending) ≡ verdict.No offset_told
unfolding late_sighting on_numbers on_doubles on_senders on_faults on_rows
late_progress = refl

late_verdict_is : verdict_of judged_cluster (late_log 250) ≡ verdict.No offset_told
unfolding verdict_of
late_verdict_is = Prim.rw (late_basis_is, late_sightings, late_offending) late_progress

-- how many senders node 2 must have missed
abbrev missed_by_rows : Basis → List ℕ
missed_by_rows b =
    let seen : List Sighting = of_each (late_sighting 250) in
    missed_told judged_cluster b.log (reading_scale 0 judged_cluster) 0 (senders_of (reading_scale 0 judged_cluster) judged_cluster b.log seen 0)
    (standing_told b (double_at b seen none_offending 0) None)

late_missed : missed_by_rows (judged_basis (late_log 250)) ≡ codes "missed,1,2,offset,-,,,\n"
unfolding late_sighting missed_told missed_row senders_of digits on_numbers on_doubles on_senders on_faults on_rows
late_missed = refl

pub judged_offset_is_told : JudgedOffsetIsTold
judged_offset_is_told = record { verdict = late_verdict_is; missed_row = Prim.rw (late_basis_is, late_sightings, late_offending) late_missed }

-- ---- where it may have missed a sender

lost_hears : log_heard judged_cluster lost_log ≡ Some Poor
unfolding log_heard is_arbitrary_in
lost_hears = refl

lost_sightings : sightings_of judged_cluster lost_log ≡ of_each (late_sighting 250)
unfolding late_sighting sightings_of fates_from fate_of judgement_of is_arbitrary_in on_frames
lost_sightings = refl

lost_offending : offending_frames_of judged_cluster lost_log ≡ none_offending
unfolding untimely_of irregular_of fates_from fate_of judgement_of is_arbitrary_in on_frames
lost_offending = refl

abbrev lost_basis : Basis
lost_basis = let b : Basis = judged_basis lost_log in record b { heard = Some Poor }

lost_basis_is : log_basis judged_cluster lost_log ≡ lost_basis
unfolding late_sighting log_heard is_arbitrary_in
lost_basis_is = Prim.rw lost_sightings refl

lost_progress : verdict_by (log_progress lost_basis (of_each (late_sighting 250)) none_offending) ≡ verdict.No lost_offset_told
unfolding late_sighting on_numbers on_doubles on_senders on_faults on_rows
lost_progress = refl

lost_verdict_is : verdict_of judged_cluster lost_log ≡ verdict.No lost_offset_told
unfolding verdict_of
lost_verdict_is = Prim.rw (lost_basis_is, lost_sightings, lost_offending) lost_progress

lost_missed : missed_by_rows lost_basis ≡ codes "missed,1,2,offset,-,,,\n"
unfolding late_sighting missed_told missed_row senders_of digits on_numbers on_doubles on_senders on_faults on_rows
lost_missed = refl

pub lost_log_is : LostLog
lost_log_is = record { heard = lost_hears; verdict = lost_verdict_is; missed_row = Prim.rw (lost_basis_is, lost_sightings, lost_offending) lost_missed }
