use Rattle.fr_base.proofs.Putting.{cut, then}
use Rattle.fr_params.proofs.writing.put_lists.Goals as goal

pub returns-in_err-put_nodes : goal.returns-in_err-put_nodes
returns-in_err-put_nodes g c = cut _ _ c.in_err-put_nodes.ensures c.from_residual.ensures.0

pub returns : goal.returns
returns g c = then _ c.in_ok-put_nodes.ensures c.put_slots.ensures
