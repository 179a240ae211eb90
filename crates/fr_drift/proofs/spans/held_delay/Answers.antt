use Rattle.std.proofs.Common.{◌≡◌, ◌∙◌, sym, ap, ℤ, Some, rules}
use mir.Val.{to_z, of_z}
use mir.Syntax.{w64}
use Rattle.std.specs.BTreeMap.{get}
use Rattle.std.proofs.lemmas.Int.{to_z-of_z}
use Rattle.fr_drift.specs.Keys.{delay_cmp}
use Rattle.fr_drift.proofs.Lines.{delay-line, last-held, last-none}
use Rattle.fr_drift.proofs.spans.held_delay.Goals as goal

pub returns-in-Some : goal.returns-in-Some
returns-in-Some c =
    let back : to_z w64 (of_z w64 c.in-Some.ticks) ≡ c.in-Some.ticks = to_z-of_z w64 c.in-Some.ticks (search rules) in
    ap (λ (z : ℤ). Some z) back ∙ sym (last-held (delay-line c.args.sender c.args.receiver) (get delay_cmp c.args.rows.now) c.args.cycle c.in-Some.field-0-0 c.in-Some.ticks c.in-Some.ensures)

pub returns-in-None : goal.returns-in-None
returns-in-None c = sym (last-none (delay-line c.args.sender c.args.receiver) (get delay_cmp c.args.rows.now) c.args.cycle (λ key h. c.in-None.ensures key h))
