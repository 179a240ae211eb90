use Rattle.std.proofs.Common.{◌≡◌, ◌%◌, ◌==◌, ◌∙◌, length, true, false, sym, arith}
use Rattle.fr_trace.specs.Cycles.{history_by}
use Rattle.fr_check.proofs.Controlling.{odd_history}
use Rattle.fr_check.proofs.Kept.{none_latest}
use Rattle.fr_check.proofs.corrections.Corrections.reach.Goals as goal

pub returns-then-behind-eq1-clause-latest : goal.returns-then-behind-eq1-clause-latest
returns-then-behind-eq1-clause-latest c =
    let odd : (length c.args.behind.now % 2 == 1) ≡ true = grind arith in
    none_latest c.args.params.now (history_by c.args.behind.now) c.compute.new.self (odd_history c.args.behind.now true odd)

pub returns-then-behind-eq1-clause-here : goal.returns-then-behind-eq1-clause-here
returns-then-behind-eq1-clause-here c = λ odd. c.compute.ensures

pub returns-else-behind-eq1-clause-here : goal.returns-else-behind-eq1-clause-here
returns-else-behind-eq1-clause-here c = λ odd.
    let even : (length c.args.behind.now % 2 == 1) ≡ false = grind arith in
    let e : true ≡ false = sym odd ∙ odd_history c.args.behind.now false even in
    absurd (cc e)
