use Rattle.fr_observe.proofs.Told.{told_one}
use Rattle.fr_observe.proofs.telling.tell_one.Goals as goal

pub returns : goal.returns
returns g c = told_one c.put_line.result c.args.fault.now c.fault_row.result c.fault_row.ensures c.keep.ensures c.put_line.ensures
