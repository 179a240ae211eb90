use Rattle.fr_base.proofs.Putting.{cut, then}
use Rattle.fr_answer.specs.LossText.{loss_figures_text}
use Rattle.fr_answer.proofs.bound_lost.put_behind.Goals as goal

pub returns-in_err-put_aparts : goal.returns-in_err-put_aparts
returns-in_err-put_aparts g c = cut _ (loss_figures_text c.args.params.now c.args.flutter c.args.figures.now) c.in_err-put_aparts.ensures c.from_residual.ensures.0

pub returns : goal.returns
returns g c = rw (← c.figure_lines.ensures) (then _ c.in_ok-put_aparts.ensures c.put_lines.ensures)
