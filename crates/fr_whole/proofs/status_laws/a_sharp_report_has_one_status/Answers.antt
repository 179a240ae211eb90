use Rattle.fr_report.proofs.RunStatus.{run_status}
use Rattle.fr_whole.specs.SharpReport.{sharp_report_text}
use Rattle.fr_whole.specs.SharpReportAnswer.{IsSharpReportText}
use Rattle.fr_whole.proofs.SharpReports.{kept_report}
use Rattle.fr_whole.proofs.status_laws.a_sharp_report_has_one_status.Goals as goal

pub returns : goal.returns
returns c = run_status (record { params_one = c.one_answer.ensures; params_some = c.some_answer.ensures; drift_one = c.one_answer-2.ensures; drift_some = c.some_answer-2.ensures; script_one = c.one_answer-3.ensures; script_some = c.some_answer-3.ensures; sane = c.accepted_are_sane.ensures }) IsSharpReportText sharp_report_text
    (λ p d s sane drift script proper. kept_report (record { sharply = c.covered_files_keep_sharply.ensures.keep; joined = c.covered_files_keep_sharply_joined.ensures; lost = c.lossy_files_give_runs.ensures.keep; joined_lost = c.joined_files_keep_through_losses.ensures.covered }) p d s (sharp_report_text p d s) sane drift script (c.a_sharp_report_is_lawful.ensures p d s sane drift script proper))
