use Rattle.fr_base.proofs.Putting.{cut, then}
use Rattle.fr_answer.specs.SharpText.{sharp_checks_text, sharp_text}
use Rattle.fr_answer.proofs.bound_sharp.print_sharp.Goals as goal

pub returns-in_err-print_bounds : goal.returns-in_err-print_bounds
unfolding sharp_text
returns-in_err-print_bounds g c = cut _ (sharp_checks_text c.args.params.now c.args.flutter) c.in_err-print_bounds.ensures c.from_residual.ensures.0

pub returns : goal.returns
unfolding sharp_text
returns g c = rw (← c.check_lines.ensures) (then _ c.in_ok-print_bounds.ensures c.put_lines.ensures)
