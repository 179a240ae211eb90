use Rattle.fr_report.proofs.RunDecided.{one_text}
use Rattle.fr_whole.specs.SharpReportAnswer.{IsSharpReportText}
use Rattle.fr_whole.proofs.SharpReports.{same_kept_report}
use Rattle.fr_whole.proofs.sharp_report.files_decide_what_is_told_sharply.Goals as goal

pub returns : goal.returns
returns c = one_text IsSharpReportText (same_kept_report c.files_decide_one_run.ensures.only) c.one_answer.ensures c.one_answer-2.ensures c.one_answer-3.ensures
