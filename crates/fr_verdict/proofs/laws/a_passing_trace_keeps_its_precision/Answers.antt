use Rattle.fr_verdict.proofs.Checked.{checked_traces_keep_precision}
use Rattle.fr_verdict.proofs.Lawful.{lawful_traces_run}
use Rattle.fr_verdict.proofs.laws.a_passing_trace_keeps_its_precision.Goals as goal

pub returns-clause-run : goal.returns-clause-run
returns-clause-run c = lawful_traces_run

pub returns-clause-keep : goal.returns-clause-keep
returns-clause-keep c = checked_traces_keep_precision
