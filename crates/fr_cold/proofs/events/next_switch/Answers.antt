use Rattle.fr_cold.proofs.Lines.{first-quiet, none-quiet}
use Rattle.fr_cold.proofs.events.next_switch.Goals as goal

pub returns-in-Some-clause-quiet : goal.returns-in-Some-clause-quiet
returns-in-Some-clause-quiet c = λ t node from below number. first-quiet c.args.rows.now c.args.tick c.args.end c.in-Some.key c.in-Some.ensures t node from below number

pub returns-in-None-clause-quiet : goal.returns-in-None-clause-quiet
returns-in-None-clause-quiet c = λ t node from below number. none-quiet c.args.rows.now c.args.tick c.args.end c.in-None.ensures t node from below number
