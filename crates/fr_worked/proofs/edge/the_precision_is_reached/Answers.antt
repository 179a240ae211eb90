use Rattle.std.proofs.Common.{lit≤}
use Rattle.fr_worked.specs.Edge.{edge_run}
use Rattle.fr_runs.specs.Stated.{all_cycles}
use Rattle.fr_worked.proofs.EdgeReached.{edge_is_kept, edge_is_stated, edge_skew, edge_unfollowed}
use Rattle.fr_worked.proofs.edge.the_precision_is_reached.Goals as goal

pub returns-clause-stated : goal.returns-clause-stated
returns-clause-stated c = edge_is_stated

pub returns-clause-first : goal.returns-clause-first
returns-clause-first c = c.one_first_unfollowed_sync.ensures.found edge_run.params (all_cycles edge_run) 0 edge_unfollowed

pub returns-clause-keeps : goal.returns-clause-keeps
returns-clause-keeps c =
    edge_is_kept c.one_lawful_run.ensures.lawful c.one_lawful_run.ensures.long
    (c.one_first_unfollowed_sync.ensures.found edge_run.params (all_cycles edge_run) 0 edge_unfollowed).unfollowed

pub returns-clause-reached : goal.returns-clause-reached
returns-clause-reached c = edge_skew

pub returns-clause-nearly : goal.returns-clause-nearly
returns-clause-nearly c = lit≤ tt
