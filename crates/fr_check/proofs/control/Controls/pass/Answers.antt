use Rattle.std.proofs.Common.{◌≡◌, ◌≤◌, ◌%◌, ◌==◌, ℕ, List, length, true, false, subst, sym, arith}
use Rattle.std.specs.Prelude.{All}
use Rattle.fr_base.specs.Rows.{AreAscendingRows}
use Rattle.fr_base.specs.declared.node_row.NodeRow.{NodeRow}
use Rattle.fr_trace.specs.Cycles.{history_by, kept_of}
use Rattle.fr_check.specs.Controls.{HasStepped}
use Rattle.fr_check.specs.Corrections.{IsCorrection}
use Rattle.fr_check.proofs.Controlling.{hold_even, hold_odd, odd_history}
use Rattle.fr_check.proofs.control.Controls.pass.Goals as goal

pub end-requires : goal.end-requires
end-requires c = subst AreAscendingRows (sym c.deref.ensures.value) c.requires

pub returns-then-behind-eq1 : goal.returns-then-behind-eq1
returns-then-behind-eq1 c = λ p here hold.
    let h = history_by c.args.behind.now in
    let devs = c.args.cycle.now.devs.items in
    let odd : (length c.args.behind.now % 2 == 1) ≡ true = grind arith in
    let after = odd_history c.args.behind.now true odd in
    hold_odd p h (kept_of c.args.cycle.now) c.end.new.self after
    (subst
    (λ (rows : List NodeRow).
    All (IsCorrection p h devs c.args.corrections.now) rows → (node : ℕ) → 1 ≤ node → node ≤ 64 → HasStepped p h devs rows c.end.new.self node)
    c.deref.ensures.value (λ kept. c.end.ensures p h devs kept hold) (here after))

pub returns-else-behind-eq1 : goal.returns-else-behind-eq1
returns-else-behind-eq1 c = λ p here hold.
    let even : (length c.args.behind.now % 2 == 1) ≡ false = grind arith in
    hold_even p (history_by c.args.behind.now) (kept_of c.args.cycle.now) c.args.self.now (odd_history c.args.behind.now false even) hold
