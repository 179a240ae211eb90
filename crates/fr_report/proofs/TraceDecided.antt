-- The files of a run decide its trace.
use Rattle.std.proofs.Common.{◌≡◌, ℕ, List, ap, sym, ◌∙◌}
use Rattle.fr_cluster.specs.Values.{Values}
use Rattle.fr_coverage.specs.Decided.{setting_of}
use Rattle.fr_drift.specs.View.{DriftView}
use Rattle.fr_history.specs.Cycles.{Cycles}
use Rattle.fr_script.specs.View.{ScriptView}
use Rattle.fr_report.proofs.RunDecided.{OneRun, one_whole}
use Rattle.fr_report.specs.TraceAnswer.{IsTraceText, run_trace}

pub same_trace : OneRun → (p : Values) (d : DriftView) (s : ScriptView) (text again : List ℕ) → IsTraceText p d s text → IsTraceText p d s again → text ≡ again
same_trace one p d s text again found more =
    found.shown
    ∙ ap (λ (h : Cycles). run_trace (setting_of p d s) h) (one_whole one p d s found.cycles more.cycles found.lawful found.whole more.lawful more.whole)
    ∙ sym more.shown
