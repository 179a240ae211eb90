use Rattle.fr_seen_runs.proofs.JudgedRounds.{offsets_are_midpoints, rates_grow_by_midpoints}
use Rattle.fr_seen_runs.proofs.computed.nodes_apply_midpoints.Goals as goal

pub returns-clause-offset : goal.returns-clause-offset
returns-clause-offset c = offsets_are_midpoints

pub returns-clause-rate : goal.returns-clause-rate
returns-clause-rate c = rates_grow_by_midpoints
