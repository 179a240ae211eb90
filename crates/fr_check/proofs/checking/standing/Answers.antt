use Rattle.std.proofs.Common.{subst}
use Rattle.fr_cluster.specs.Sane.{IsSane}
use Rattle.fr_check.proofs.checking.standing.Goals as goal

pub returns-clause-sane : goal.returns-clause-sane
returns-clause-sane c = subst IsSane c.params.view_is c.params.invariant
