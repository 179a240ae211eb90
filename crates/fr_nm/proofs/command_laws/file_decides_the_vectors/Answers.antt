use Rattle.fr_nm.proofs.Decided.{one_text}
use Rattle.fr_nm.proofs.command_laws.file_decides_the_vectors.Goals as goal

pub returns : goal.returns
returns c = one_text c.one_answer.ensures
