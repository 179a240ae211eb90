-- What the run of accepted files keeps of what its trace is asked for.
use Rattle.std.specs.Prelude.{◌≡◌, ◌*◌, ℕ, false, length, None}
use Rattle.fr_cluster.specs.Sane.{IsSane}
use Rattle.fr_cluster.specs.Values.{Values}
use Rattle.fr_coverage.specs.Decided.{setting_of}
use Rattle.fr_drift.specs.Files.{DriftFits}
use Rattle.fr_drift.specs.Questions.{doubles_of}
use Rattle.fr_drift.specs.View.{DriftView}
use Rattle.fr_history.specs.Cycles.{Cycles, some_joins, told_of}
use Rattle.fr_history.specs.Lawful.{IsLawful}
use Rattle.fr_script.specs.Files.{ScriptFits}
use Rattle.fr_script.specs.View.{ScriptView, join_of}
use Rattle.fr_trace.specs.ReadBack.{IsReadBack}
use Rattle.fr_trace.specs.Text.{text_of, trace_in}
use Rattle.fr_verdict.specs.RunFits.{KeepsRanges}
use Rattle.fr_verdict.specs.Runs.{trace_of_run}

-- a drift and a script that fit the parameters of a cluster keep the ranges, whoever joins
abbrev pub FilesKeepRanges : Type 0
FilesKeepRanges = (p : Values) (d : DriftView) (s : ScriptView) → IsSane p → DriftFits p d → ScriptFits p s → KeepsRanges (setting_of p d s)

-- and where no correct node of the cluster joins, no node does
abbrev pub FilesThatNoneJoins : Type 0
FilesThatNoneJoins =
    (p : Values) (d : DriftView) (s : ScriptView) (node : ℕ) → ScriptFits p s → some_joins (setting_of p d s) ≡ false → join_of s node ≡ None

-- so the text of the trace of their run is accepted as a trace file, and stands for that trace and for no other
abbrev pub RunsOfFilesAreReadBack : Type 0
RunsOfFilesAreReadBack =
    (p : Values) (d : DriftView) (s : ScriptView) (h : Cycles)
    → IsSane p → DriftFits p d → ScriptFits p s → IsLawful (setting_of p d s) h → length h ≡ 2 * doubles_of d
    → IsReadBack p (trace_of_run (setting_of p d s) h) (text_of (trace_in (setting_of p d s) (told_of h)))
