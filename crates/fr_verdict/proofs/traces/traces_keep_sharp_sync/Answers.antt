use Rattle.fr_verdict.proofs.TraceSettles.{passing_traces_come_sharp}
use Rattle.fr_verdict.proofs.TraceCycles.{traces_keep_sharp_precision}
use Rattle.fr_verdict.proofs.TraceSync.{checked_traces_are_steady, traces_keep_sharp_sync_lem}
use Rattle.fr_verdict.proofs.traces.traces_keep_sharp_sync.Goals as goal

pub returns-clause-steady : goal.returns-clause-steady
returns-clause-steady c = checked_traces_are_steady

pub returns-clause-keep : goal.returns-clause-keep
returns-clause-keep c = traces_keep_sharp_sync_lem

pub returns-clause-precise : goal.returns-clause-precise
returns-clause-precise c = traces_keep_sharp_precision

pub returns-clause-passing : goal.returns-clause-passing
returns-clause-passing c = passing_traces_come_sharp
