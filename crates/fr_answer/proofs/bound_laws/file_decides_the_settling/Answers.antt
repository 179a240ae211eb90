use Rattle.fr_answer.proofs.BoundDecided.{one_way}
use Rattle.fr_answer.proofs.bound_laws.file_decides_the_settling.Goals as goal

pub returns : goal.returns
returns c = one_way c.one_answer.ensures
