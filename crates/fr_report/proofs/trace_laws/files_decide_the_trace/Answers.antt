use Rattle.fr_report.proofs.RunDecided.{one_text}
use Rattle.fr_report.specs.TraceAnswer.{IsTraceText}
use Rattle.fr_report.proofs.TraceDecided.{same_trace}
use Rattle.fr_report.proofs.trace_laws.files_decide_the_trace.Goals as goal

pub returns : goal.returns
returns c = one_text IsTraceText (same_trace c.files_decide_one_run.ensures.only) c.one_answer.ensures c.one_answer-2.ensures c.one_answer-3.ensures
