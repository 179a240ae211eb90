use Rattle.fr_worked.proofs.TracesAre.{keeps_sharply_beside}
use Rattle.fr_worked.proofs.traces.a_trace_beside_an_arbitrary_node.Goals as goal

pub returns : goal.returns
returns c = keeps_sharply_beside c.traces_keep_sharp_sync.ensures.precise
