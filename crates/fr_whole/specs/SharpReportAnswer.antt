-- What a request for the report of a run by the sharper bounds reads, and writes.
use Rattle.std.specs.Prelude.{◌≡◌, ◌↔◌, ℕ, List, ◌++◌, None}
use Rattle.fr_answer.specs.RunAnswer.{IsKeptRunText}
use Rattle.fr_cluster.specs.Values.{Values}
use Rattle.fr_coverage.specs.Flutter.{flutter_from}
use Rattle.fr_drift.specs.View.{DriftView}
use Rattle.fr_history.specs.Cycles.{Cycles}
use Rattle.fr_program.specs.Command.{Command}
use Rattle.fr_report.specs.Files.{run_command}
use Rattle.fr_report.specs.Names.{RunNames}
use Rattle.fr_report.specs.RunText.{IsRunText}
use Rattle.fr_script.specs.View.{ScriptView}
use Rattle.fr_series.specs.Basis.{asked_from}
use Rattle.fr_series.specs.SharpAnswer.{KeepsAndTells}
use Rattle.fr_sharp.specs.SharpCovered.{first_sharp_gap, IsCoveredSharply}
use Rattle.fr_series.specs.SharpMeaning.{AreSharpFigures}
use Rattle.fr_whole.specs.SharpGaps.{AreSharpGaps}
use Rattle.fr_whole.specs.SharpReport.{sharp_lines_by}
use Rattle.fr_sharp.specs.SharpStatement.{has_arbitrary}
use Rattle.fr_promise.specs.SharpTested.{IsFirstSharpSyncBy}

-- a text is what the sharper bounds say of some cycles of these files, from their first double cycle in sharp sync on: that the run is
-- sharply covered from there on exactly where it is, and then the cycles keep what the promise says, with their own flutter; that its gaps
-- are the first of each kind; and the figures mean what they are called
pub record IsToldSharply (params : Values) (drift : DriftView) (script : ScriptView) (h : Cycles) (text : List ℕ) : Type 0 where
  pub shown : text ≡ sharp_lines_by params drift script h
  pub gaps :
      AreSharpGaps params drift script (asked_from params drift script h) (flutter_from params drift script (asked_from params drift script h))
  pub covered :
      (from : ℕ)
      → (first_sharp_gap params drift script from (flutter_from params drift script from) ≡ None)
      ↔ IsCoveredSharply params drift script from (flutter_from params drift script from)
  pub keeps :
      (first : ℕ) → IsFirstSharpSyncBy (has_arbitrary params script) params (flutter_from params drift script) h first
      → IsCoveredSharply params drift script first (flutter_from params drift script first)
      → KeepsAndTells params drift script h first
  pub figures : AreSharpFigures params drift script h

-- a text is what the sharper bounds say of the run that the files decide, and behind it the report of the same run
pub record IsSharpRunText (params : Values) (drift : DriftView) (script : ScriptView) (text : List ℕ) : Type 0 where
  pub sharp : List ℕ
  pub report : List ℕ
  pub shown : text ≡ sharp ++ report
  pub run : IsRunText params drift script report
  pub told : IsToldSharply params drift script run.cycles sharp

-- a text is what the sharper bounds say of the run that the files decide, and behind it the report of the same run, as a request for
-- that alone writes it, with all that is promised of the run
pub record IsSharpReportText (params : Values) (drift : DriftView) (script : ScriptView) (text : List ℕ) : Type 0 where
  pub sharp : List ℕ
  pub report : List ℕ
  pub shown : text ≡ sharp ++ report
  pub kept : IsKeptRunText params drift script report
  pub told : IsToldSharply params drift script kept.report.cycles sharp

abbrev pub sharp_report_command : RunNames → Command
sharp_report_command names = run_command IsSharpReportText names
