use Rattle.fr_base.proofs.Putting.{cut, then}
use Rattle.fr_answer.specs.SharpJoinText.{sharp_reach_text, sharp_with_join_text}
use Rattle.fr_answer.proofs.bound_sharp_join.print_with_join.Goals as goal

pub returns-in_err-print_sharp : goal.returns-in_err-print_sharp
unfolding sharp_with_join_text
returns-in_err-print_sharp g c = cut _ (sharp_reach_text c.args.params.now c.args.flutter) c.in_err-print_sharp.ensures c.from_residual.ensures.0

pub returns : goal.returns
unfolding sharp_with_join_text
returns g c = rw (← c.join_lines.ensures) (then _ c.in_ok-print_sharp.ensures c.put_lines.ensures)
