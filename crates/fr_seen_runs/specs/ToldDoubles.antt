-- The rows of a text: behind that of the precision each double cycle of the log has its own, and these have exactly the faults, what
-- nodes missed, the spreads and the rows over of which the laws speak.
use Rattle.std.specs.Prelude.{◌≡◌, ℕ, pos, List, ◌++◌, map, Option}
use Rattle.std.specs.List.{flat_map}
use Rattle.fr_bound.specs.declared.judging.Known.{Known}
use Rattle.fr_cluster.specs.Values.{Values}
use Rattle.fr_log.specs.View.{LogView}
use Rattle.fr_course.specs.Readings.{reading_scale}
use Rattle.fr_sightings.specs.Sightings.{offending_frames_of, sightings_of, tally_of}
use Rattle.fr_sightings.specs.Sure.{are_numbers_sure}
use Rattle.fr_observe.specs.Faults.{fault_row, stated_flutter}
use Rattle.fr_observe.specs.Observing.{double_rows, precision_row, seen_doubles, senders_of}
use Rattle.fr_observe.specs.declared.fault.Fault.{Fault}
use Rattle.fr_judging.specs.Hearing.{log_heard, log_precision}
use Rattle.fr_judging.specs.Knowing.{spread_heard}
use Rattle.fr_judging.specs.Missing.{missed_row}
use Rattle.fr_judging.specs.declared.missed.Missed.{Missed}
use Rattle.fr_findings.specs.Census.{census_text}
use Rattle.fr_findings.specs.Text.{end_told, observe_text}
use Rattle.fr_findings.specs.Verdict.{log_basis, log_progress}
use Rattle.fr_findings.specs.declared.progress.Progress.{Progress}
use Rattle.fr_seen_runs.specs.OverRows.{over_at, over_rows}
use Rattle.fr_seen_runs.specs.Standings.{Missing, log_missing, log_spreads, spread_row_of}
use Rattle.fr_seen_runs.specs.ToldFaults.{log_faults}

-- what the rows of a double cycle tell behind those of its cycles and senders
pub record ToldDouble : Type 0 where
  pub number : ℕ
  pub faults : List Fault
  pub missed : List Missed
  pub spread : Option Known

-- all of its rows
abbrev pub rows_told : Values → LogView → ToldDouble → List ℕ
rows_told p l d =
    double_rows (pos (log_precision p l)) (reading_scale l.drift p) d.number
    (senders_of (reading_scale l.drift p) p l (sightings_of p l) d.number)
    ++ (flat_map fault_row d.faults ++ (flat_map missed_row d.missed ++ spread_heard p l d.number (log_heard p l) d.spread))

-- what its nodes missed, with its number
abbrev pub missings_in : ToldDouble → List Missing
missings_in d = map (λ missed. record { number = d.number; missed = missed }) d.missed

-- what stands behind those of the last one: the census of the senders, and what holds of the whole log
abbrev pub text_behind : Values → LogView → List ℕ
text_behind p l =
    let progress : Progress = log_progress (log_basis p l) (sightings_of p l) (offending_frames_of p l) in
    census_text p l (sightings_of p l) ++ end_told (sightings_of p l) (tally_of p l) (are_numbers_sure p l) progress

-- a text has the rows of these double cycles, and nothing else between the precision and the census; one after the other they have
-- all faults, rows of what was missed, rows of spread and rows that say over of the log
pub record TellsDoubles (p : Values) (l : LogView) (text : List ℕ) : Type 0 where
  pub doubles : List ToldDouble
  pub shown :
      text ≡ precision_row (pos (log_precision p l)) (stated_flutter p l) l.lost
      ++ (flat_map (rows_told p l) doubles ++ text_behind p l)
  pub numbers : map (λ d. d.number) doubles ≡ seen_doubles (sightings_of p l)
  pub faults : flat_map (λ d. d.faults) doubles ≡ log_faults p l
  pub missed : flat_map missings_in doubles ≡ log_missing p l
  pub spreads : flat_map (λ d. spread_row_of d.number d.spread) doubles ≡ log_spreads p l
  pub over : flat_map (λ d. over_at p l d.number) doubles ≡ over_rows p l

-- it is so of the text of each log
abbrev pub TextTellsDoubles : Type 0
TextTellsDoubles = (p : Values) (l : LogView) → TellsDoubles p l (observe_text p l)
