-- The files of a run decide its report, and so does a seed.
use Rattle.std.proofs.Common.{◌≡◌, ℕ, List, ap, sym, ◌∙◌}
use Rattle.fr_cluster.specs.Values.{Values}
use Rattle.fr_coverage.specs.Coverage.{first_gap}
use Rattle.fr_coverage.specs.Decided.{setting_of}
use Rattle.fr_drift.specs.View.{DriftView}
use Rattle.fr_lines.specs.Text.{report_of}
use Rattle.fr_script.specs.View.{ScriptView}
use Rattle.fr_generator.specs.Seeds.{OneCluster}
use Rattle.fr_report.proofs.RunDecided.{OneRun, moved, one_whole}
use Rattle.fr_report.specs.MakeAnswer.{OneMadeReport}
use Rattle.fr_report.specs.RunText.{IsRunText}

pub same_report : OneRun → (p : Values) (d : DriftView) (s : ScriptView) (text again : List ℕ) → IsRunText p d s text → IsRunText p d s again → text ≡ again
same_report one p d s text again found more =
    found.shown
    ∙ ap (report_of (setting_of p d s) (first_gap p d s)) (one_whole one p d s found.cycles more.cycles found.run.lawful found.run.whole more.run.lawful more.run.whole)
    ∙ sym more.shown

pub one_made_report : OneCluster → OneRun → OneMadeReport
one_made_report cluster_one run_one seed doubles text again found more =
    let same = cluster_one seed doubles (record { params = found.params; drift = found.drift; script = found.script }) (record { params = more.params; drift = more.drift; script = more.script }) found.made more.made in
    let shown : IsRunText found.params found.drift found.script again =
    moved IsRunText found.params more.params found.drift more.drift found.script more.script again (λ i. (same i).params) (λ i. (same i).drift) (λ i. (same i).script) more.shown in
    same_report run_one found.params found.drift found.script text again found.shown shown
