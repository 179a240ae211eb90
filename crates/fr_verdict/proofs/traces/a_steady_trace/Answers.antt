use Rattle.fr_verdict.proofs.TraceWorked.{worked_trace_keeps_precision, worked_trace_meets_premises}
use Rattle.fr_verdict.proofs.traces.a_steady_trace.Goals as goal

pub returns-clause-premises : goal.returns-clause-premises
returns-clause-premises c = worked_trace_meets_premises

pub returns-clause-precise : goal.returns-clause-precise
returns-clause-precise c = worked_trace_keeps_precision
