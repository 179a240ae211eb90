use Rattle.fr_whole.proofs.SharpChecks.{told_sharply}
use Rattle.fr_whole.proofs.sharp_check_laws.a_sharp_check_is_told.Goals as goal

pub returns : goal.returns
returns c =
    told_sharply c.traces_keep_sharp_sync.ensures.steady c.traces_keep_sharp_sync.ensures.keep c.traces_keep_sharp_sync.ensures.precise c.alike_traces_keep_sharp_sync.ensures.keep c.alike_traces_keep_sharp_sync.ensures.precise
    c.alike_traces_keep_sharp_sync.ensures.found c.walks_are_bounded.ensures.stops
