use Rattle.std.proofs.Common.{◌≡◌, ◌++◌, ◌+◌, ◌-◌, [], rules, arith}
use Rattle.fr_base.proofs.Putting.{cut, puts_none, then}
use Rattle.fr_cold.specs.Cold.{state_in}
use Rattle.fr_cold.proofs.Texts.{leading-more, leading-over}
use Rattle.fr_cold.proofs.printing.+put_each_leading.Goals as goal

pub returns-then-number-gt64 : goal.returns-then-number-gt64
returns-then-number-gt64 g t c = rw (leading-over (state_in c.args.cold.now.states) c.args.number (omega arith)) (puts_none (g.O.Sink.state c.args.out.now))

pub returns-in_err-put_if_leading : goal.returns-in_err-put_if_leading
returns-in_err-put_if_leading g t c = rw (← leading-more (state_in c.args.cold.now.states) c.args.number (omega arith)) (cut _ _ c.in_err-put_if_leading.ensures c.from_residual.ensures.0)

pub returns : goal.returns
returns g t c = rw (← leading-more (state_in c.args.cold.now.states) c.args.number (omega arith)) (then _ c.in_ok-put_if_leading.ensures c.put_each_leading.ensures)
