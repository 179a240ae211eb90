use Rattle.fr_worked.proofs.TracesAre.{passes_and_comes_sharp, settles_from_far_starts}
use Rattle.fr_worked.proofs.traces.a_trace_that_comes_sharp.Goals as goal

pub returns-clause-passes : goal.returns-clause-passes
returns-clause-passes c = passes_and_comes_sharp c.traces_keep_sharp_sync.ensures.passing

pub returns-clause-settles : goal.returns-clause-settles
returns-clause-settles c = settles_from_far_starts c.traces_settle_sharply.ensures
