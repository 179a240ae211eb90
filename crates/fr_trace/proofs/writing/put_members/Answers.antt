use Rattle.fr_base.proofs.Putting.{cut, then}
use Rattle.fr_trace.proofs.writing.put_members.Goals as goal

pub returns-in_err-put_named : goal.returns-in_err-put_named
returns-in_err-put_named g c = cut _ _ c.in_err-put_named.ensures c.from_residual.ensures.0

pub returns : goal.returns
returns g c = then _ c.in_ok-put_named.ensures c.put_joins.ensures
