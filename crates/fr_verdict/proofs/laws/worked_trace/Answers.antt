use Rattle.fr_verdict.proofs.Worked.{devs_are_broken, gaps_are_found, items_are_numbered, joined_is_lawful, nodes_are_apart, rows_are_broken, terms_are_broken, worked_is_lawful}
use Rattle.fr_verdict.proofs.laws.worked_trace.Goals as goal

pub returns-clause-items : goal.returns-clause-items
returns-clause-items c = items_are_numbered

pub returns-clause-lawful : goal.returns-clause-lawful
returns-clause-lawful c = worked_is_lawful

pub returns-clause-rows : goal.returns-clause-rows
returns-clause-rows c = rows_are_broken

pub returns-clause-terms : goal.returns-clause-terms
returns-clause-terms c = terms_are_broken

pub returns-clause-devs : goal.returns-clause-devs
returns-clause-devs c = devs_are_broken

pub returns-clause-gaps : goal.returns-clause-gaps
returns-clause-gaps c = gaps_are_found

pub returns-clause-joined : goal.returns-clause-joined
returns-clause-joined c = joined_is_lawful

pub returns-clause-apart : goal.returns-clause-apart
returns-clause-apart c = nodes_are_apart
