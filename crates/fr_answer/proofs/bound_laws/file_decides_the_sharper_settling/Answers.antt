use Rattle.fr_answer.proofs.BoundDecided.{one_sharper_way}
use Rattle.fr_answer.proofs.bound_laws.file_decides_the_sharper_settling.Goals as goal

pub returns : goal.returns
returns c = one_sharper_way c.one_answer.ensures c.one_sharp_way.ensures
