use Rattle.fr_report.proofs.RunDecided.{one_text}
use Rattle.fr_report.specs.RunText.{IsRunText}
use Rattle.fr_report.proofs.ReportDecided.{same_report}
use Rattle.fr_report.proofs.run_laws.files_decide_the_report.Goals as goal

pub returns : goal.returns
returns c = one_text IsRunText (same_report c.files_decide_one_run.ensures.only) c.one_answer.ensures c.one_answer-2.ensures c.one_answer-3.ensures
