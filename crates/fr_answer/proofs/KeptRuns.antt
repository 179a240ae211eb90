-- The report of a run says what the sharper promise says of the same run.
use Rattle.std.proofs.Common.{ℕ, List, Ok, Err}
use Rattle.fr_cluster.specs.Sane.{IsSane}
use Rattle.fr_cluster.specs.Values.{Values}
use Rattle.fr_base.specs.Device.{Shelved}
use Rattle.fr_drift.specs.Files.{DriftFits}
use Rattle.fr_drift.specs.View.{DriftView}
use Rattle.fr_script.specs.Files.{ScriptFits}
use Rattle.fr_script.specs.View.{ScriptView}
use Rattle.fr_program.specs.declared.failure.Failure.TheVariants.{Usage, Stopped, WriteFault}
use Rattle.fr_program.specs.Around.{Around, Ending}
use Rattle.fr_program.specs.Command.{CommandEnds, IsCommandText}
use Rattle.fr_report.specs.Files.{run_command}
use Rattle.fr_report.specs.Names.{RunNames}
use Rattle.fr_report.specs.RunText.{IsRunText}
use Rattle.fr_sharp.specs.JoinedFiles.{CoveredFilesKeepSharplyJoined}
use Rattle.fr_sharp.specs.JoinedLossStatement.{CoveredFilesKeepJoinedThroughLosses}
use Rattle.fr_sharp.specs.LossStatement.{CoveredFilesKeepThroughLosses}
use Rattle.fr_sharp.specs.SharpFiles.{CoveredFilesKeepSharply}
use Rattle.fr_answer.specs.RunAnswer.{IsKeptRunText, kept_run_command}

-- what is promised of files, by what they are covered
pub record FilePromises : Type 0 where
  pub sharply : CoveredFilesKeepSharply
  pub joined : CoveredFilesKeepSharplyJoined
  pub lost : CoveredFilesKeepThroughLosses
  pub joined_lost : CoveredFilesKeepJoinedThroughLosses

-- it says this of the same run
abbrev pub kept_text : FilePromises → (p : Values) (d : DriftView) (s : ScriptView) (text : List ℕ) → IsSane p → DriftFits p d → ScriptFits p s → IsRunText p d s text
    → IsKeptRunText p d s text
kept_text promises p d s text sane drift_fits script_fits report = record {
  report = report;
  sharply = λ from flutter double covered low synced. promises.sharply p d s from flutter report.cycles double sane covered report.run low synced;
  joined = λ from flutter double covered low synced. promises.joined p d s from flutter report.cycles double sane drift_fits script_fits covered report.run low synced;
  through_losses = λ from flutter reach double covered low synced awake.
      promises.lost p d s from flutter reach report.cycles double sane covered report.run low synced awake;
  joined_through_losses = λ from flutter reach double covered low synced.
      promises.joined_lost p d s from flutter reach report.cycles double sane drift_fits script_fits covered report.run low synced;
}

kept_written : FilePromises → (names : RunNames) (before after : Shelved) (text : List ℕ)
    → IsCommandText (run_command IsRunText names) before after text → IsCommandText (kept_run_command names) before after text
kept_written promises names before after text written =
    let w = written.is_text in
    let p = w.0 in let d = w.2.0 in let s = w.2.2.0 in record {
      is_text = (p, w.1, (d, w.2.1, (s, w.2.2.1, kept_text promises p d s text w.1.sound w.2.1.sound w.2.2.1.sound.fits w.2.2.2)));
      asked = written.asked;
    }

pub kept_run_ends : FilePromises → (names : RunNames) (around : Around) (ending : Ending)
    → CommandEnds (run_command IsRunText names) around ending → CommandEnds (kept_run_command names) around ending
kept_run_ends promises names around (Ok done) ends = record {
  text = ends.text;
  defined = kept_written promises names around.shelf_before around.shelf_after ends.text ends.defined;
  put = ends.put;
}
kept_run_ends promises names around (Err Usage) ends = absurd ends
kept_run_ends promises names around (Err (Stopped why)) ends = ends
kept_run_ends promises names around (Err WriteFault) ends = record {
  text = ends.text;
  defined = kept_written promises names around.shelf_before around.shelf_after ends.text ends.defined;
  put = ends.put;
}
