-- The report of a run by the sharper bounds: what they say of the same run, and what a request for the report alone says of it.
use Rattle.std.proofs.Common.{◌≡◌, ◌∙◌, ℕ, ◌*◌, List, ◌++◌, ap, ap₂, refl, subst, sym, Ok, Err}
use Rattle.fr_base.specs.Device.{Shelved}
use Rattle.fr_cluster.specs.Sane.{IsSane}
use Rattle.fr_cluster.specs.Values.{Values}
use Rattle.fr_coverage.specs.Decided.{setting_of}
use Rattle.fr_drift.specs.Files.{DriftFits}
use Rattle.fr_drift.specs.Questions.{doubles_of}
use Rattle.fr_drift.specs.View.{DriftView}
use Rattle.fr_history.specs.Cycles.{Cycles}
use Rattle.fr_history.specs.Next.{cycles_of}
use Rattle.fr_program.specs.Around.{Around, Ending}
use Rattle.fr_program.specs.Command.{CommandEnds, IsCommandText}
use Rattle.fr_program.specs.declared.failure.Failure.TheVariants.{Usage, Stopped, WriteFault}
use Rattle.fr_report.proofs.ReportDecided.{same_report}
use Rattle.fr_report.proofs.RunDecided.{OneRun, one_whole}
use Rattle.fr_report.specs.Files.{run_command}
use Rattle.fr_report.specs.Names.{RunNames}
use Rattle.fr_report.specs.RunText.{IsRunText, run_text}
use Rattle.fr_script.specs.Files.{ScriptFits}
use Rattle.fr_script.specs.View.{ScriptView}
use Rattle.fr_series.specs.Basis.{asked_from}
use Rattle.fr_series.specs.SharpAnswer.{IsSharpSeriesText}
use Rattle.fr_coverage.specs.Flutter.{flutter_from}
use Rattle.fr_coverage.specs.Kinds.{gaps_by_kind, AreFirstGaps}
use Rattle.fr_whole.proofs.GapsInOrder.{sharp_gaps_are}
use Rattle.fr_whole.specs.SharpReport.{sharp_lines_by, sharp_report_text}
use Rattle.fr_whole.specs.SharpReportAnswer.{IsSharpRunText, IsToldSharply}
use Rattle.fr_answer.proofs.KeptRuns.{kept_text, FilePromises}
use Rattle.fr_whole.specs.SharpReportAnswer.{IsSharpReportText, sharp_report_command}

-- the first gaps of each kind, from each double cycle on
abbrev pub FirstGaps : Values → DriftView → ScriptView → Type 0
FirstGaps p d s = (from : ℕ) → AreFirstGaps p d s from (gaps_by_kind p d s from)

-- what a sharper series says of its cycles holds of those of the report: they are the same
told_sharply : OneRun → (p : Values) (d : DriftView) (s : ScriptView) (report series : List ℕ) (run : IsRunText p d s report) → FirstGaps p d s → IsSharpSeriesText p d s series
    → IsToldSharply p d s run.cycles (sharp_lines_by p d s run.cycles)
told_sharply one p d s report series run kinds told =
    let same : told.cycles ≡ run.cycles = one_whole one p d s told.cycles run.cycles told.lawful told.whole run.run.lawful run.run.whole in
    let P : Cycles → Type 0 = λ h. IsToldSharply p d s h (sharp_lines_by p d s h) in
    subst P same (record { shown = refl; gaps = sharp_gaps_are p d s (asked_from p d s told.cycles) (flutter_from p d s (asked_from p d s told.cycles)) (kinds (asked_from p d s told.cycles)); covered = told.covered; keeps = told.keeps; figures = told.figures })

pub sharp_report_of : OneRun → (p : Values) (d : DriftView) (s : ScriptView) (series : List ℕ) → IsRunText p d s (run_text p d s) → FirstGaps p d s → IsSharpSeriesText p d s series
    → IsSharpRunText p d s (sharp_report_text p d s)
sharp_report_of one p d s series run kinds told =
    let all : run.cycles ≡ cycles_of (setting_of p d s) (2 * doubles_of d) =
    one p d s run.cycles run.run.lawful ∙ ap (cycles_of (setting_of p d s)) run.run.whole in
    record {
      sharp = sharp_lines_by p d s run.cycles;
      report = run_text p d s;
      shown = ap (λ (h : Cycles). sharp_lines_by p d s h ++ run_text p d s) (sym all);
      run = run;
      told = told_sharply one p d s (run_text p d s) series run kinds told;
    }

pub same_sharp_report : OneRun → (p : Values) (d : DriftView) (s : ScriptView) (text again : List ℕ) → IsSharpRunText p d s text → IsSharpRunText p d s again → text ≡ again
same_sharp_report one p d s text again found more =
    let cycles : found.run.cycles ≡ more.run.cycles =
    one_whole one p d s found.run.cycles more.run.cycles found.run.run.lawful found.run.run.whole more.run.run.lawful more.run.run.whole in
    let sharp : found.sharp ≡ more.sharp = found.told.shown ∙ ap (sharp_lines_by p d s) cycles ∙ sym more.told.shown in
    let report : found.report ≡ more.report = same_report one p d s found.report more.report found.run more.run in
    found.shown ∙ ap₂ (λ (l m : List ℕ). l ++ m) sharp report ∙ sym more.shown

-- ---- what is kept of the run

pub kept_report : FilePromises → (p : Values) (d : DriftView) (s : ScriptView) (text : List ℕ) → IsSane p → DriftFits p d → ScriptFits p s → IsSharpRunText p d s text
    → IsSharpReportText p d s text
kept_report promises p d s text sane drift_fits script_fits written = record {
  sharp = written.sharp;
  report = written.report;
  shown = written.shown;
  kept = kept_text promises p d s written.report sane drift_fits script_fits written.run;
  told = written.told;
}

kept_written : FilePromises → (names : RunNames) (before after : Shelved) (text : List ℕ)
    → IsCommandText (run_command IsSharpRunText names) before after text → IsCommandText (sharp_report_command names) before after text
kept_written promises names before after text written =
    let w = written.is_text in
    let p = w.0 in let d = w.2.0 in let s = w.2.2.0 in record {
      is_text = (p, w.1, (d, w.2.1, (s, w.2.2.1, kept_report promises p d s text w.1.sound w.2.1.sound w.2.2.1.sound.fits w.2.2.2)));
      asked = written.asked;
    }

pub kept_report_ends : FilePromises → (names : RunNames) (around : Around) (ending : Ending)
    → CommandEnds (run_command IsSharpRunText names) around ending → CommandEnds (sharp_report_command names) around ending
kept_report_ends promises names around (Ok done) ends = record {
  text = ends.text;
  defined = kept_written promises names around.shelf_before around.shelf_after ends.text ends.defined;
  put = ends.put;
}
kept_report_ends promises names around (Err Usage) ends = absurd ends
kept_report_ends promises names around (Err (Stopped why)) ends = ends
kept_report_ends promises names around (Err WriteFault) ends = record {
  text = ends.text;
  defined = kept_written promises names around.shelf_before around.shelf_after ends.text ends.defined;
  put = ends.put;
}

-- ---- the files decide it

run_of : (p : Values) (d : DriftView) (s : ScriptView) (text : List ℕ) → IsSharpReportText p d s text → IsSharpRunText p d s text
run_of p d s text written = record { sharp = written.sharp; report = written.report; shown = written.shown; run = written.kept.report; told = written.told }

pub same_kept_report : OneRun → (p : Values) (d : DriftView) (s : ScriptView) (text again : List ℕ) → IsSharpReportText p d s text → IsSharpReportText p d s again → text ≡ again
same_kept_report one p d s text again found more = same_sharp_report one p d s text again (run_of p d s text found) (run_of p d s again more)
