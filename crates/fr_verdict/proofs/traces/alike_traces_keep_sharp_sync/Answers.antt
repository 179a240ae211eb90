use Rattle.fr_verdict.proofs.AlikeFound.{first_unlike_is_found}
use Rattle.fr_verdict.proofs.TraceAlike.{unnamed_traces_are_alike}
use Rattle.fr_verdict.proofs.TraceCycles.{alike_traces_keep_precision}
use Rattle.fr_verdict.proofs.TraceSettles.{passing_traces_keep_sharply}
use Rattle.fr_verdict.proofs.TraceSync.{alike_traces_keep_sharp_sync}
use Rattle.fr_verdict.proofs.traces.alike_traces_keep_sharp_sync.Goals as goal

pub returns-clause-unnamed : goal.returns-clause-unnamed
returns-clause-unnamed c = unnamed_traces_are_alike

pub returns-clause-keep : goal.returns-clause-keep
returns-clause-keep c = alike_traces_keep_sharp_sync

pub returns-clause-precise : goal.returns-clause-precise
returns-clause-precise c = alike_traces_keep_precision

pub returns-clause-found : goal.returns-clause-found
returns-clause-found c = first_unlike_is_found

pub returns-clause-passing : goal.returns-clause-passing
returns-clause-passing c = passing_traces_keep_sharply
