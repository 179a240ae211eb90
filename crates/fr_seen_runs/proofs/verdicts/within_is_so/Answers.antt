use Rattle.fr_seen_runs.proofs.ReachesEnd.{within_reaches_end}
use Rattle.fr_seen_runs.proofs.Reaching.{within_is_so, within_is_there}
use Rattle.fr_seen_runs.proofs.verdicts.within_is_so.Goals as goal

pub returns-clause-there : goal.returns-clause-there
returns-clause-there c = within_is_there

pub returns-clause-within : goal.returns-clause-within
returns-clause-within c = within_is_so

pub returns-clause-ends : goal.returns-clause-ends
returns-clause-ends c = within_reaches_end
