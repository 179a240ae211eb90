use Rattle.fr_findings.proofs.Over.{over_is_told_lem}
use Rattle.fr_findings.proofs.laws.over_is_told.Goals as goal

pub returns : goal.returns
returns c = over_is_told_lem
