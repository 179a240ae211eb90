use Rattle.fr_judging.proofs.Reasons.{reasons_are_of_unjudged_lem}
use Rattle.fr_findings.proofs.Outcomes.{open_is_counted_lem, partly_is_counted_lem, standings_are_told_lem, sync_is_counted_lem, within_is_counted_lem}
use Rattle.fr_findings.proofs.laws.outcomes_are_counted.Goals as goal

pub returns-clause-each : goal.returns-clause-each
returns-clause-each c = standings_are_told_lem reasons_are_of_unjudged_lem

pub returns-clause-sync : goal.returns-clause-sync
returns-clause-sync c = sync_is_counted_lem

pub returns-clause-partly : goal.returns-clause-partly
returns-clause-partly c = partly_is_counted_lem

pub returns-clause-within : goal.returns-clause-within
returns-clause-within c = within_is_counted_lem

pub returns-clause-open : goal.returns-clause-open
returns-clause-open c = open_is_counted_lem
