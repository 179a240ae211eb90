use Rattle.fr_precision.proofs.EndLemmas.{ends_come_among_lem}
use Rattle.fr_precision.proofs.LengthLemmas.{lengths_come_among_lem}
use Rattle.fr_promise.proofs.among.nodes_come_among.Goals as goal

pub returns-clause-lengths : goal.returns-clause-lengths
returns-clause-lengths c = lengths_come_among_lem

pub returns-clause-ends : goal.returns-clause-ends
returns-clause-ends c = ends_come_among_lem
