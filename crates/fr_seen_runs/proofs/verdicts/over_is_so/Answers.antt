use Rattle.fr_seen_runs.proofs.OverLaws.{over_is_counted, over_is_so}
use Rattle.fr_seen_runs.proofs.verdicts.over_is_so.Goals as goal

pub returns-clause-counted : goal.returns-clause-counted
returns-clause-counted c = over_is_counted

pub returns-clause-over : goal.returns-clause-over
returns-clause-over c = over_is_so
