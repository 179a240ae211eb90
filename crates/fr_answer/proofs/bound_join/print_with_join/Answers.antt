use Rattle.fr_base.proofs.Putting.{cut, then}
use Rattle.fr_answer.specs.BoundText.{reach_text, with_join_text}
use Rattle.fr_answer.proofs.bound_join.print_with_join.Goals as goal

pub returns-in_err-print : goal.returns-in_err-print
unfolding with_join_text
returns-in_err-print g c = cut _ (reach_text c.args.params.now) c.in_err-print.ensures c.from_residual.ensures.0

pub returns : goal.returns
unfolding with_join_text
returns g c = rw (← c.join_lines.ensures) (then _ c.in_ok-print.ensures c.put_lines.ensures)
