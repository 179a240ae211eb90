use Rattle.fr_answer.proofs.BoundDecided.{one_sharp_bounds}
use Rattle.fr_answer.proofs.bound_laws.file_decides_the_sharper_bounds.Goals as goal

pub returns : goal.returns
returns c = one_sharp_bounds c.one_answer.ensures
