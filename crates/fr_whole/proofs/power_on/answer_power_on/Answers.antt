use Rattle.std.proofs.Common.{◌≡◌, ℕ, List, [], ◌∷◌, Err, rules}
use Rattle.fr_program.proofs.Endings.{ends_cut_short}
use Rattle.fr_program.specs.declared.failure.Failure.TheVariants.{WriteFault}
use Rattle.fr_program.specs.Command.{IsCommandText}
use Rattle.fr_text.specs.Files.{StopsIn}
use Rattle.fr_text.specs.declared.told.Told.{Told}
use Rattle.fr_whole.specs.PowerOnAnswer.{power_on_command, power_on_files, power_on_text}
use Rattle.fr_whole.proofs.power_on.answer_power_on.Goals as goal

pub returns-in_err-print_power_on-clause-ends : goal.returns-in_err-print_power_on-clause-ends
returns-in_err-print_power_on-clause-ends g c =
    let is : c.from_residual-in_err-print_power_on.result ≡ Err WriteFault = search rules in
    let a = c.args in
    let shown = c.a_power_on_is_told.ensures c.in_ok-params.params a.flutter in
    let before = g.S.Shelf.state a.shelf.now in
    let after = g.S.Shelf.state c.accepted.new.shelf in
    let IsText : List ℕ → Type 0 = IsCommandText (power_on_command a.file.now a.flutter) before after in
    let Stops : Told → Type 0 = StopsIn (power_on_files a.flutter) [] (a.file.now ∷ []) before after in
    ends_cut_short IsText Stops (power_on_text c.in_ok-params.params a.flutter) (g.O.Sink.state a.out.now) (g.O.Sink.state c.print_power_on.new.out) c.from_residual-in_err-print_power_on.result is (record { is_text = (c.in_ok-params.params, c.in_ok-params.ensures.accepted, shown); asked = c.in_ok-params.ensures.later.one_load }) c.in_err-print_power_on.ensures
