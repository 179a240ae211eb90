use Rattle.fr_sharp.proofs.RunWay.{histories_settle_sharply, stated_runs_settle_sharply}
use Rattle.fr_sharp.proofs.histories.histories_settle_sharply.Goals as goal

pub returns-clause-settle : goal.returns-clause-settle
returns-clause-settle c = histories_settle_sharply

pub returns-clause-stated : goal.returns-clause-stated
returns-clause-stated c = stated_runs_settle_sharply
