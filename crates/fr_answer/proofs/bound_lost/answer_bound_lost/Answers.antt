use Rattle.std.proofs.Common.{◌≡◌, ℕ, List, [], ◌∷◌, Err, refl, rules}
use Rattle.fr_program.proofs.Endings.{ends_cut_short}
use Rattle.fr_program.specs.declared.failure.Failure.TheVariants.{WriteFault}
use Rattle.fr_program.specs.Command.{IsCommandText}
use Rattle.fr_text.specs.Files.{StopsIn}
use Rattle.fr_text.specs.declared.told.Told.{Told}
use Rattle.fr_answer.specs.LossAnswer.{loss_command, loss_files, IsLossText}
use Rattle.fr_answer.specs.LossText.{loss_text}
use Rattle.fr_answer.proofs.bound_lost.answer_bound_lost.Goals as goal

pub returns-in_err-print_losses-clause-ends : goal.returns-in_err-print_losses-clause-ends
returns-in_err-print_losses-clause-ends g c =
    let is : c.from_residual-in_err-print_losses.result ≡ Err WriteFault = search rules in
    let a = c.args in
    let figures = c.figures_of-figures.result in
    let written : List ℕ = loss_text c.in_ok-params.params a.flutter a.count figures in
    let told : IsLossText c.in_ok-params.params a.flutter a.count written = record { figures = figures; are = c.figures_of-figures.ensures.are; shown = refl } in
    let before = g.S.Shelf.state a.shelf.now in
    let after = g.S.Shelf.state c.accepted.new.shelf in
    let IsText : List ℕ → Type 0 = IsCommandText (loss_command a.file.now a.flutter a.count) before after in
    let Stops : Told → Type 0 = StopsIn (loss_files a.flutter a.count) [] (a.file.now ∷ []) before after in
    ends_cut_short IsText Stops written (g.O.Sink.state a.out.now) (g.O.Sink.state c.print_losses.new.out) c.from_residual-in_err-print_losses.result is (record { is_text = (c.in_ok-params.params, c.in_ok-params.ensures.accepted, told); asked = c.in_ok-params.ensures.later.one_load }) c.in_err-print_losses.ensures
