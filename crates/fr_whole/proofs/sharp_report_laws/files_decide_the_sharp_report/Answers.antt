use Rattle.fr_report.proofs.RunDecided.{one_text}
use Rattle.fr_whole.specs.SharpReportAnswer.{IsSharpRunText}
use Rattle.fr_whole.proofs.SharpReports.{same_sharp_report}
use Rattle.fr_whole.proofs.sharp_report_laws.files_decide_the_sharp_report.Goals as goal

pub returns : goal.returns
returns c = one_text IsSharpRunText (same_sharp_report c.files_decide_one_run.ensures.only) c.one_answer.ensures c.one_answer-2.ensures c.one_answer-3.ensures
