use Rattle.std.proofs.Common.{◌≡◌, ℕ, List, [], ◌∷◌, Err, refl, rules}
use Rattle.fr_program.proofs.Endings.{ends_cut_short}
use Rattle.fr_program.specs.declared.failure.Failure.TheVariants.{WriteFault}
use Rattle.fr_program.specs.Command.{IsCommandText}
use Rattle.fr_text.specs.Files.{StopsIn}
use Rattle.fr_text.specs.declared.told.Told.{Told}
use Rattle.fr_answer.specs.SettleAnswer.{sharp_settle_command, sharp_settle_files, IsSharpSettling}
use Rattle.fr_answer.specs.SharpSettleText.{sharp_settle_text}
use Rattle.fr_answer.proofs.settle_sharp.answer_settle_sharp.Goals as goal

pub returns-in_err-print_ways-clause-ends : goal.returns-in_err-print_ways-clause-ends
returns-in_err-print_ways-clause-ends g c =
    let is : c.from_residual-in_err-print_ways.result ≡ Err WriteFault = search rules in
    let a = c.args in
    let settling : IsSharpSettling c.in_ok-params.params a.start a.rate a.flutter (sharp_settle_text a.start a.rate a.flutter c.ways_of-ways.result) =
    record { ways = c.ways_of-ways.result; are = c.ways_of-ways.ensures; shown = refl } in
    let before = g.S.Shelf.state a.shelf.now in
    let after = g.S.Shelf.state c.accepted.new.shelf in
    let IsText : List ℕ → Type 0 = IsCommandText (sharp_settle_command a.file.now a.start a.rate a.flutter) before after in
    let Stops : Told → Type 0 = StopsIn (sharp_settle_files a.start a.rate a.flutter) [] (a.file.now ∷ []) before after in
    ends_cut_short IsText Stops (sharp_settle_text a.start a.rate a.flutter c.ways_of-ways.result) (g.O.Sink.state a.out.now) (g.O.Sink.state c.print_ways.new.out) c.from_residual-in_err-print_ways.result is (record { is_text = (c.in_ok-params.params, c.in_ok-params.ensures.accepted, settling); asked = c.in_ok-params.ensures.later.one_load }) c.in_err-print_ways.ensures
