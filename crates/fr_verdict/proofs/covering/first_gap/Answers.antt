use Rattle.fr_verdict.proofs.Stepping.{first_gap-check, first_gap-other}
use Rattle.fr_verdict.proofs.covering.first_gap.Goals as goal

pub returns-in-Some : goal.returns-in-Some
returns-in-Some c = first_gap-check c.args.params.now c.args.trace.now c.in-Some.gap c.failing_check.result c.failing_check.ensures c.in-Some.is

pub returns-in-None : goal.returns-in-None
returns-in-None c = first_gap-other c.args.params.now c.args.trace.now c.first_other_gap.result c.failing_check.result c.failing_check.ensures c.in-None.is c.first_other_gap.ensures
