use Rattle.fr_findings.proofs.Within.{partly_is_else_lem, within_says_within_lem}
use Rattle.fr_findings.proofs.laws.within_is_exact.Goals as goal

pub returns-clause-within : goal.returns-clause-within
returns-clause-within c = within_says_within_lem

pub returns-clause-partly : goal.returns-clause-partly
returns-clause-partly c = partly_is_else_lem
