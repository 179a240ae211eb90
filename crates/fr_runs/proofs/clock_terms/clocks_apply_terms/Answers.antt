use Rattle.fr_runs.proofs.Applied.{offsets_are_terms, rates_are_terms}
use Rattle.fr_runs.proofs.clock_terms.clocks_apply_terms.Goals as goal

pub returns-clause-offset : goal.returns-clause-offset
returns-clause-offset c = offsets_are_terms

pub returns-clause-rate : goal.returns-clause-rate
returns-clause-rate c = rates_are_terms
