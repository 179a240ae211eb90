use Rattle.fr_program.proofs.Transfers.{more_written, front_written, front_flushed}
use Rattle.fr_program.proofs.adapters.write_whole.Goals as goal

pub returns-then-is_empty-clause-front : goal.returns-then-is_empty-clause-front
returns-then-is_empty-clause-front g c = front_flushed c.flushed.result _ _ _ _ _ _ c.turns.invariant c.flushed.ensures

pub returns-in-Err-clause-front : goal.returns-in-Err-clause-front
returns-in-Err-clause-front g c = front_written _ _ _ _ _ _ c.turns.invariant c.in-Err.ensures.nothing

pub turns-preserved : goal.turns-preserved
turns-preserved g c = rw c.split_at.ensures.back (more_written _ _ _ _ _ _ c.in-Ok.count c.turns.invariant c.in-Ok.ensures.taken c.in-Ok.ensures.some c.in-Ok.ensures.within)
