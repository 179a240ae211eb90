use Rattle.fr_cold.proofs.Decided.{one_startup}
use Rattle.fr_cold.proofs.command_laws.files_decide_the_leaders.Goals as goal

pub returns : goal.returns
returns c = one_startup c.one_answer.ensures c.one_answer-2.ensures
