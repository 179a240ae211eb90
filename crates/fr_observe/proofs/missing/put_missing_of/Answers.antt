use Rattle.fr_observe.proofs.Told.{told_cut, told_then}
use Rattle.fr_observe.proofs.missing.put_missing_of.Goals as goal

pub returns-in_err-put_missing_in : goal.returns-in_err-put_missing_in
returns-in_err-put_missing_in g c = told_cut _ _ c.in_err-put_missing_in.ensures c.from_residual.ensures.0

pub returns : goal.returns
returns g c = told_then _ c.in_ok-put_missing_in.ensures c.put_missing_in-2.ensures
