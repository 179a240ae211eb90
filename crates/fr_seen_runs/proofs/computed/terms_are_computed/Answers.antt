use Rattle.fr_seen_runs.proofs.JudgedComputed.{offsets_are_computed, rates_are_computed}
use Rattle.fr_seen_runs.proofs.computed.terms_are_computed.Goals as goal

pub returns-clause-offset : goal.returns-clause-offset
returns-clause-offset c = offsets_are_computed c.values_are_counted.ensures c.middles_hold.ensures

pub returns-clause-rate : goal.returns-clause-rate
returns-clause-rate c = rates_are_computed c.values_are_counted.ensures c.values_are_placed.ensures c.middles_hold.ensures
