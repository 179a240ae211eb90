use Rattle.fr_findings.proofs.Gaps.{within_is_judged_lem}
use Rattle.fr_findings.proofs.laws.within_is_judged.Goals as goal

pub returns : goal.returns
returns c = within_is_judged_lem
