use Rattle.fr_report.specs.TraceAnswer.{IsTraceText, trace_text}
use Rattle.fr_report.proofs.RunStatus.{run_status}
use Rattle.fr_report.proofs.status_laws.a_trace_has_one_status.Goals as goal

pub returns : goal.returns
returns c = run_status (record { params_one = c.one_answer.ensures; params_some = c.some_answer.ensures; drift_one = c.one_answer-2.ensures; drift_some = c.some_answer-2.ensures; script_one = c.one_answer-3.ensures; script_some = c.some_answer-3.ensures; sane = c.accepted_are_sane.ensures }) IsTraceText trace_text (λ p d s sane fits script proper. c.a_trace_is_lawful.ensures p d s sane fits proper)
