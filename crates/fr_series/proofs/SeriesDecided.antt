-- The files of a run decide its series.
use Rattle.std.proofs.Common.{◌≡◌, ℕ, List, ap, sym, ◌∙◌}
use Rattle.fr_cluster.specs.Values.{Values}
use Rattle.fr_drift.specs.View.{DriftView}
use Rattle.fr_series.specs.SeriesText.{series_of}
use Rattle.fr_script.specs.View.{ScriptView}
use Rattle.fr_report.proofs.RunDecided.{OneRun, one_whole}
use Rattle.fr_series.specs.SeriesAnswer.{IsSeriesText}

pub same_series : OneRun → (p : Values) (d : DriftView) (s : ScriptView) (text again : List ℕ) → IsSeriesText p d s text → IsSeriesText p d s again → text ≡ again
same_series one p d s text again found more =
    found.shown
    ∙ ap (series_of p) (one_whole one p d s found.cycles more.cycles found.lawful found.whole more.lawful more.whole)
    ∙ sym more.shown
