-- What `check` writes of what `trace` wrote: of covered files it is what `run` tells of them.
use Rattle.std.specs.Prelude.{◌≡◌, ◌≤◌, ℕ, false, List, [], ◌∷◌, ◌++◌, codes, length, Option, None}
use Rattle.std.specs.Fmt.{decimal}
use Rattle.std.specs.Option.{option_map}
use Rattle.fr_base.specs.declared.shelf.TheConstants.{MAX_FILE}
use Rattle.fr_check.specs.CheckAnswer.{IsUnlawfulSaid, IsVerdictText, check_files}
use Rattle.fr_cluster.specs.Sane.{IsSane}
use Rattle.fr_cluster.specs.Values.{Values}
use Rattle.fr_coverage.specs.Decided.{setting_of}
use Rattle.fr_coverage.specs.Order.{HasNoGap}
use Rattle.fr_coverage.specs.Phrases.{precision_text, sync_text}
use Rattle.fr_drift.specs.Files.{DriftFits, IsDriftFile}
use Rattle.fr_drift.specs.View.{DriftView}
use Rattle.fr_generator.specs.Generated.{IsGenerated, IsMadeCount}
use Rattle.fr_generator.specs.declared.generated.Generated.{Generated}
use Rattle.fr_history.specs.Cycles.{some_joins}
use Rattle.fr_lines.specs.Text.{greatest_line, told_text}
use Rattle.fr_lines.specs.declared.told.Told.{Told}
use Rattle.fr_params.specs.Files.{IsParamsFile, params_file}
use Rattle.fr_report.specs.RunText.{IsRunText}
use Rattle.fr_report.specs.TraceAnswer.{IsTraceText}
use Rattle.fr_script.specs.Files.{IsScriptFile, IsSoundScript}
use Rattle.fr_script.specs.View.{ScriptView}
use Rattle.fr_text.specs.Files.{IsStatusOf}
use Rattle.fr_text.specs.Kind.{AreBytes}
use Rattle.fr_text.specs.Lines.{shown}
use Rattle.fr_text.specs.Pieces.{line}
use Rattle.fr_text.specs.declared.status.Status.TheVariants as status
use Rattle.fr_trace.specs.Files.{IsTraceFile}
use Rattle.fr_trace.specs.ReadBack.{IsReadBack}
use Rattle.fr_trace.specs.Trace.{TraceView}
use Rattle.fr_verdict.specs.CoveredRuns.{IsPassing, IsSyncByTrace}

-- what is told of a run in the lines of a verdict, with a first double cycle in sync or none: how many nodes and
-- arbitrary nodes and double cycles there are, the precision, that double cycle or none, and the greatest skew with its
-- first place
abbrev pub told_verdict : Told → Option ℕ → List ℕ
told_verdict told synced =
    line (codes "trace nodes " ++ decimal told.nodes ++ codes " arbitrary " ++ decimal told.arbitrary ++ codes " doubles " ++ decimal told.doubles)
    ++ line (precision_text told.precision)
    ++ line (sync_text synced)
    ++ shown (option_map greatest_line told.greatest)

-- a verdict and the report of a covered run tell the same, but that the first double cycle in sync that the verdict
-- tells, or that it tells none, stands to what the report tells as is stated
pub record TellTheSame (AreSynced : Option ℕ → Option ℕ → Type 0) (verdict report : List ℕ) : Type 0 where
  pub told : Told
  pub covered : told.gap ≡ None
  pub reported : report ≡ told_text told
  pub synced : Option ℕ
  pub are_synced : AreSynced told.synced synced
  pub judged : verdict ≡ told_verdict told synced

-- both tell the same one, or both tell none
abbrev pub IsSameSync : Option ℕ → Option ℕ → Type 0
IsSameSync reported synced = synced ≡ reported

-- a text is accepted as the file of one trace, which breaks no law and has no gap; there is a verdict on it, and each
-- tells what the report does, but for the first double cycle in sync: where the report tells one, the first one of the
-- trace from there on in which no node may follow, or none where one may in each of these; where the report tells none,
-- none. And no line says that the trace is not lawful or not covered
pub record IsCheckedAs (p : Values) (traced report : List ℕ) : Type 0 where
  pub trace : TraceView
  pub read : IsReadBack p trace traced
  pub passes : IsPassing p trace
  pub verdict : List ℕ
  pub written : IsVerdictText p trace verdict
  pub same : (text : List ℕ) → IsVerdictText p trace text → TellTheSame (IsSyncByTrace trace) text report
  pub never : (said : List ℕ) → IsUnlawfulSaid p trace said → ⊥
  -- so `check` of the file of the parameters and of that text, where it is no longer than a file may be, ends with Done
  pub done :
      (params : List ℕ) → AreBytes params_file params p → length traced ≤ MAX_FILE
      → IsStatusOf check_files (params ∷ traced ∷ []) status.Done

-- so it is with what `trace` writes of covered files, and what `run` does, whoever joins
abbrev pub WhatIsTracedIsChecked : Type 0
WhatIsTracedIsChecked =
    (p : Values) (d : DriftView) (s : ScriptView) (traced report : List ℕ)
    → IsSane p → DriftFits p d → IsSoundScript p s → HasNoGap p d s
    → IsTraceText p d s traced → IsRunText p d s report → IsCheckedAs p traced report

-- and where no correct node joins, the verdict tells the first double cycle in sync of the report, or none where the
-- report tells none
abbrev pub WhatIsTracedAloneIsChecked : Type 0
WhatIsTracedAloneIsChecked =
    (p : Values) (d : DriftView) (s : ScriptView) (traced report : List ℕ) (t : TraceView) (verdict : List ℕ)
    → IsSane p → DriftFits p d → IsSoundScript p s → some_joins (setting_of p d s) ≡ false → HasNoGap p d s
    → IsTraceText p d s traced → IsRunText p d s report
    → IsTraceFile p t traced → IsVerdictText p t verdict → TellTheSame IsSameSync verdict report

-- so it is by the bytes of the three files
abbrev pub TracedFilesAreChecked : Type 0
TracedFilesAreChecked =
    (p : Values) (d : DriftView) (s : ScriptView) (params drift script traced report : List ℕ)
    → IsParamsFile p params → IsDriftFile p d drift → IsScriptFile p s script → HasNoGap p d s
    → IsTraceText p d s traced → IsRunText p d s report → IsCheckedAs p traced report

-- and of the cluster of a seed, whose texts are such files
abbrev pub MadeRunsAreChecked : Type 0
MadeRunsAreChecked =
    (seed doubles : ℕ) (made : Generated) (traced report : List ℕ)
    → IsMadeCount doubles → IsGenerated seed doubles made → HasNoGap made.params made.drift made.script
    → IsTraceText made.params made.drift made.script traced → IsRunText made.params made.drift made.script report
    → IsCheckedAs made.params traced report
