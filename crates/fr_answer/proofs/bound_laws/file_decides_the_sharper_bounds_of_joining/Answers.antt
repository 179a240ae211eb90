use Rattle.fr_answer.proofs.BoundDecided.{one_sharp_join_bounds}
use Rattle.fr_answer.proofs.bound_laws.file_decides_the_sharper_bounds_of_joining.Goals as goal

pub returns : goal.returns
returns c = one_sharp_join_bounds c.one_answer.ensures
