use Rattle.fr_log.proofs.Ending.{last-cycle, log-proper}
use Rattle.fr_log.proofs.draft.Draft.into_log_of.Goals as goal

pub cycle_of-requires : goal.cycle_of-requires
cycle_of-requires c = last-cycle c.args.self c.requires.drafted.0 c.requires.drafted.1

pub invariant_of-result : goal.invariant_of-result
invariant_of-result c =
    rw (c.unwrap_or.ensures, c.unwrap_or-2.ensures, c.cycle_of.ensures)
    (log-proper c.args.self c.requires.drafted.0 c.args.unit c.args.drift c.requires.drafted.1 c.requires.unit c.requires.drift)
