use Rattle.std.proofs.Common.{◌+◌, ℕ, List, ◌++◌, subst}
use Rattle.fr_base.proofs.Putting.{cut, then}
use Rattle.fr_base.specs.Device.{Puts}
use Rattle.fr_answer.specs.LossText.{loss_apart_lines, loss_figures_text, loss_text}
use Rattle.fr_answer.proofs.bound_lost.print_losses.Goals as goal

pub returns-in_err-put_lines : goal.returns-in_err-put_lines
unfolding loss_text
returns-in_err-put_lines g c =
    let p = c.args.params.now in
    let t = c.args.flutter in
    let rest : List ℕ = loss_apart_lines p t c.args.count 0 (c.args.figures.now.row.back + 1) ++ loss_figures_text p t c.args.figures.now in
    let P : List ℕ → Type 0 = λ l. Puts c.from_residual.result (g.O.Sink.state c.args.out.now) (g.O.Sink.state c.put_lines.new.out) (l ++ rest) in
    subst P c.bound_lines.ensures (cut c.from_residual.result rest c.in_err-put_lines.ensures c.from_residual.ensures.0)

pub returns : goal.returns
unfolding loss_text
returns g c =
    let p = c.args.params.now in
    let t = c.args.flutter in
    let rest : List ℕ = loss_apart_lines p t c.args.count 0 (c.args.figures.now.row.back + 1) ++ loss_figures_text p t c.args.figures.now in
    let P : List ℕ → Type 0 = λ l. Puts c.put_behind.result (g.O.Sink.state c.args.out.now) (g.O.Sink.state c.put_behind.new.out) (l ++ rest) in
    subst P c.bound_lines.ensures (then c.put_behind.result c.in_ok-put_lines.ensures c.put_behind.ensures)
