-- The trace of the run that accepted files decide.
use Rattle.std.specs.Prelude.{◌≡◌, ℕ, ◌*◌, List, length}
use Rattle.fr_cluster.specs.Setting.{Setting}
use Rattle.fr_cluster.specs.Values.{Values}
use Rattle.fr_coverage.specs.Decided.{setting_of}
use Rattle.fr_drift.specs.Questions.{doubles_of}
use Rattle.fr_drift.specs.View.{DriftView}
use Rattle.fr_script.specs.View.{ScriptView}
use Rattle.fr_history.specs.Cycles.{Cycles, told_of}
use Rattle.fr_history.specs.Lawful.{IsLawful}
use Rattle.fr_history.specs.Next.{cycles_of}
use Rattle.fr_trace.specs.Text.{text_of, trace_in}

-- the trace of the cycles of a run: what is told of them, which is of the nodes with rows
abbrev pub run_trace : Setting → Cycles → List ℕ
run_trace x h = text_of (trace_in x (told_of h))

-- that of the run that three files decide, of all its cycles
abbrev pub trace_text : Values → DriftView → ScriptView → List ℕ
trace_text p d s = run_trace (setting_of p d s) (cycles_of (setting_of p d s) (2 * doubles_of d))

-- a text is that of the trace of the lawful cycles of that run: there is one such list of all its cycles and no other
pub record IsTraceText (params : Values) (drift : DriftView) (script : ScriptView) (text : List ℕ) : Type 0 where
  pub cycles : Cycles
  pub lawful : IsLawful (setting_of params drift script) cycles
  pub whole : length cycles ≡ 2 * doubles_of drift
  pub shown : text ≡ run_trace (setting_of params drift script) cycles
