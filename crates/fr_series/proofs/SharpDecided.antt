-- The files of a run decide its sharper series.
use Rattle.std.proofs.Common.{◌≡◌, ℕ, List, ap, sym, ◌∙◌}
use Rattle.fr_cluster.specs.Values.{Values}
use Rattle.fr_drift.specs.View.{DriftView}
use Rattle.fr_script.specs.View.{ScriptView}
use Rattle.fr_report.proofs.RunDecided.{OneRun, one_whole}
use Rattle.fr_series.specs.SharpAnswer.{IsSharpSeriesText}
use Rattle.fr_series.specs.SharpText.{sharp_series_by}

pub same_sharp_series : OneRun → (p : Values) (d : DriftView) (s : ScriptView) (text again : List ℕ) → IsSharpSeriesText p d s text → IsSharpSeriesText p d s again → text ≡ again
same_sharp_series one p d s text again found more =
    found.shown
    ∙ ap (sharp_series_by p d s) (one_whole one p d s found.cycles more.cycles found.lawful found.whole more.lawful more.whole)
    ∙ sym more.shown
