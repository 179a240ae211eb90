use Rattle.std.proofs.Common.{◌≡◌, ◌%◌, ◌==◌, ◌∙◌, ap, sym, not, ◌&&◌, Bool, length, true, false, arith}
use Rattle.fr_base.specs.States.{is_halted}
use Rattle.fr_check.proofs.Controlling.{odd_history}
use Rattle.fr_check.proofs.rows.is_corrected.Goals as goal

pub returns-then-behind-eq1 : goal.returns-then-behind-eq1
returns-then-behind-eq1 c =
    let odd : (length c.args.behind.now % 2 == 1) ≡ true = grind arith in
    ap not c.is_halted.ensures ∙ sym (ap (λ (b : Bool). b && not (is_halted c.args.row.now.state)) (odd_history c.args.behind.now true odd))

pub returns-else-behind-eq1 : goal.returns-else-behind-eq1
returns-else-behind-eq1 c =
    let even : (length c.args.behind.now % 2 == 1) ≡ false = grind arith in
    even ∙ sym (ap (λ (b : Bool). b && not (is_halted c.args.row.now.state)) (odd_history c.args.behind.now false even))
