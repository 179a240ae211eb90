use Rattle.fr_base.proofs.Putting.{cut, then}
use Rattle.fr_findings.proofs.census.put_both.Goals as goal

pub returns-in_err-put_if : goal.returns-in_err-put_if
returns-in_err-put_if g c = cut _ _ c.in_err-put_if.ensures c.from_residual.ensures.0

pub returns : goal.returns
returns g c = then _ c.in_ok-put_if.ensures c.put_if-2.ensures
