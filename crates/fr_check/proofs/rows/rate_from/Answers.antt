use Rattle.std.proofs.Common.{◌≡◌, ◌∙◌, ap, sym, w32, rules, Some}
use mir.Val.{of_z, to_z}
use Rattle.std.proofs.lemmas.Int.{to_z-of_z}
use Rattle.fr_history.specs.History.{row_of}
use Rattle.fr_trace.specs.Cycles.{history_by, kept_of}
use Rattle.fr_verdict.proofs.Parts.{of_found}
use Rattle.fr_verdict.specs.Breach.{rate_from}
use Rattle.fr_check.specs.Corrections.{IsCorrection}
use Rattle.fr_check.proofs.rows.rate_from.Goals as goal

pub returns-in-Some : goal.returns-in-Some
returns-in-Some c = λ p here.
    let h = history_by c.args.earlier.now in
    let last = kept_of c.args.last.now in
    let before = c.in-Some.before.now in
    let found : row_of last.rows c.args.row.now.node ≡ Some before = sym c.in-Some.ensures in
    let back : to_z w32 (of_z w32 c.rate_after.result) ≡ c.rate_after.result = to_z-of_z w32 c.rate_after.result (search rules) in
    back
    ∙ c.rate_after.ensures p last (λ odd. of_found (IsCorrection p h last.devs c.args.corrections.now) last.rows c.args.row.now.node before found (here odd))
    ∙ sym (ap (rate_from p h last c.args.row.now) found)
