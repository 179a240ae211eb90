-- The rows of a text are those of its double cycles, one after the other.
use Rattle.std.proofs.Common.{◌≡◌, ℕ, pos, List, [], ◌∷◌, ◌++◌, map, Option, Some, None, refl, ap, ap₂}
use Rattle.std.specs.List.{flat_map}
use Rattle.fr_bound.specs.declared.judging.Heard.{Heard}
use Rattle.fr_bound.specs.declared.judging.Known.{Known}
use Rattle.fr_cluster.specs.Values.{Values}
use Rattle.fr_log.specs.View.{LogView}
use Rattle.fr_course.specs.Scales.{Scale}
use Rattle.fr_sightings.specs.Sightings.{OffendingFrames, offending_frames_of, sightings_of}
use Rattle.fr_sightings.specs.declared.sender.Sender.{Sender}
use Rattle.fr_sightings.specs.declared.sighting.Sighting.{Sighting}
use Rattle.fr_observe.specs.Faults.{fault_row, stated_flutter}
use Rattle.fr_observe.specs.Observing.{double_rows, precision_row, seen_doubles, senders_of}
use Rattle.fr_observe.specs.declared.fault.Fault.{Fault}
use Rattle.fr_judging.specs.Hearing.{log_heard, log_precision}
use Rattle.fr_judging.specs.Knowing.{judged_met, spread_heard, spread_told, standing_of}
use Rattle.fr_judging.specs.Missing.{all_missed, missed_row, missed_told}
use Rattle.fr_judging.specs.declared.knowing.Standing.{Standing}
use Rattle.fr_findings.specs.Text.{all_told, observe_text, whole_told}
use Rattle.fr_findings.specs.Verdict.{Basis, DoubleCycle, double_at, double_faults, double_told, log_basis, no_progress, progress_behind, standing_told, told_of_doubles}
use Rattle.fr_findings.specs.declared.progress.Progress.{Progress}
use Rattle.fr_seen_runs.specs.OverRows.{over_at, over_rows}
use Rattle.fr_seen_runs.specs.Standings.{log_missing, log_spreads, missed_rows_from, missed_rows_of, spread_row_of, spreads_from}
use Rattle.fr_seen_runs.specs.ToldDoubles.{TextTellsDoubles, ToldDouble, missings_in, text_behind, rows_told}
use Rattle.fr_seen_runs.specs.ToldFaults.{faults_from, log_faults}

-- a row of spread is by what nodes hear: where that is not told, no double cycle is judged
spread_by : (p : Values) (scale : Scale) (l : LogView) (here : List Sighting) (double : ℕ) (senders : List Sender) (heard : Option Heard) (known : Option Known) (told : Option Fault)
    → spread_told p l double (standing_of p scale l here double senders heard known told)
    ≡ spread_heard p l double heard (judged_met (standing_of p scale l here double senders heard known told))
unfolding spread_told standing_of
spread_by p scale l here double senders None known told = refl
spread_by p scale l here double senders (Some what) known told = refl

module _ (p : Values) (l : LogView) where
  abbrev Log : Basis
  Log = log_basis p l

  abbrev Seen : List Sighting
  Seen = sightings_of p l

  abbrev Offending : OffendingFrames
  Offending = offending_frames_of p l

  abbrev At : ℕ → DoubleCycle
  At double = double_at Log Seen Offending double

  abbrev Stands : ℕ → Progress → Standing
  Stands double progress = standing_told Log (At double) progress.known

  abbrev Behind : ℕ → Progress → Progress
  Behind double progress = progress_behind Log Seen Offending double progress

  -- a double cycle, by what is known before it, and some of them, one after the other
  told_at : ℕ → Progress → ToldDouble
  told_at double progress = record {
    number = double;
    faults = double_faults Log Seen Offending double progress.known;
    missed = all_missed p l Log.scale double (At double).senders (judged_met (Stands double progress));
    spread = judged_met (Stands double progress);
  }

  told_from : Progress → List ℕ → List ToldDouble
  told_from progress [] = []
  told_from progress (double ∷ doubles) = told_at double progress ∷ told_from (Behind double progress) doubles

  -- ---- what they have

  numbers_are : (progress : Progress) (doubles : List ℕ) → map (λ d. d.number) (told_from progress doubles) ≡ doubles
  unfolding told_from told_at
  numbers_are progress [] = refl
  numbers_are progress (double ∷ doubles) = ap (λ others. double ∷ others) (numbers_are (Behind double progress) doubles)

  faults_are : (progress : Progress) (doubles : List ℕ) → flat_map (λ d. d.faults) (told_from progress doubles) ≡ faults_from Log Seen Offending progress doubles
  unfolding told_from told_at faults_from
  faults_are progress [] = refl
  faults_are progress (double ∷ doubles) =
      ap (λ others. double_faults Log Seen Offending double progress.known ++ others) (faults_are (Behind double progress) doubles)

  missed_are : (progress : Progress) (doubles : List ℕ) → flat_map missings_in (told_from progress doubles) ≡ missed_rows_from Log Seen Offending progress doubles
  unfolding told_from told_at missed_rows_from
  missed_are progress [] = refl
  missed_are progress (double ∷ doubles) =
      ap (λ others. missed_rows_of Log Seen Offending progress double ++ others) (missed_are (Behind double progress) doubles)

  spreads_are : (progress : Progress) (doubles : List ℕ)
      → flat_map (λ d. spread_row_of d.number d.spread) (told_from progress doubles) ≡ spreads_from Log Seen Offending progress doubles
  unfolding told_from told_at spreads_from
  spreads_are progress [] = refl
  spreads_are progress (double ∷ doubles) =
      ap (λ others. spread_row_of double (judged_met (Stands double progress)) ++ others) (spreads_are (Behind double progress) doubles)

  over_are : (progress : Progress) (doubles : List ℕ) → flat_map (λ d. over_at p l d.number) (told_from progress doubles) ≡ flat_map (over_at p l) doubles
  unfolding told_from told_at
  over_are progress [] = refl
  over_are progress (double ∷ doubles) = ap (λ others. over_at p l double ++ others) (over_are (Behind double progress) doubles)

  -- ---- their text

  spread_is : (double : ℕ) (progress : Progress)
      → spread_told p l double (Stands double progress) ≡ spread_heard p l double (log_heard p l) (judged_met (Stands double progress))
  unfolding standing_told double_at
  spread_is double progress = spread_by p Log.scale l (At double).here (At double).number (At double).senders (log_heard p l) progress.known _

  text_at : (double : ℕ) (progress : Progress) → double_told Log (At double) progress ≡ rows_told p l (told_at double progress)
  unfolding double_told double_at senders_of missed_told told_at
  text_at double progress =
      ap (λ (spread : List ℕ). double_rows Log.precision Log.scale double (At double).senders ++ (flat_map fault_row (double_faults Log Seen Offending double progress.known)
      ++ (flat_map missed_row (all_missed p l Log.scale double (At double).senders (judged_met (Stands double progress))) ++ spread)))
      (spread_is double progress)

  texts_are : (progress : Progress) (doubles : List ℕ)
      → told_of_doubles Log Seen Offending progress doubles ≡ flat_map (rows_told p l) (told_from progress doubles)
  unfolding told_from told_of_doubles
  texts_are progress [] = refl
  texts_are progress (double ∷ doubles) = ap₂ (λ (one others : List ℕ). one ++ others) (text_at double progress) (texts_are (Behind double progress) doubles)

pub text_tells_doubles : TextTellsDoubles
unfolding observe_text whole_told all_told log_faults log_missing log_spreads over_rows
text_tells_doubles p l =
    let doubles = seen_doubles (sightings_of p l) in
    record {
      doubles = told_from p l no_progress doubles;
      shown = ap (λ (told : List ℕ). precision_row (pos (log_precision p l)) (stated_flutter p l) l.lost ++ (told ++ text_behind p l)) (texts_are p l no_progress doubles);
      numbers = numbers_are p l no_progress doubles;
      faults = faults_are p l no_progress doubles;
      missed = missed_are p l no_progress doubles;
      spreads = spreads_are p l no_progress doubles;
      over = over_are p l no_progress doubles;
    }
