use Rattle.fr_verdict.proofs.TraceSpreads.{traces_settle_sharply_lem}
use Rattle.fr_verdict.proofs.traces.traces_settle_sharply.Goals as goal

pub returns : goal.returns
returns c = traces_settle_sharply_lem
