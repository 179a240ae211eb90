use Rattle.std.proofs.Common.{◌≡◌, ◌∙◌, ap, subst, sym, w32, rules}
use mir.Val.{of_z, to_z}
use Rattle.std.proofs.lemmas.Int.{to_z-of_z}
use Rattle.fr_history.specs.History.{History}
use Rattle.fr_verdict.specs.Breach.{traced_rate}
use Rattle.fr_check.specs.Corrections.{AreLatest}
use Rattle.fr_check.proofs.rows.rate_behind.Goals as goal

pub returns-in-Some : goal.returns-in-Some
returns-in-Some c = λ p latest.
    let parts = c.in-Some.ensures.parts in
    let back : to_z w32 (of_z w32 c.rate_from.result) ≡ c.rate_from.result = to_z-of_z w32 c.rate_from.result (search rules) in
    back
    ∙ c.rate_from.ensures p (subst (λ (h : History). AreLatest p h c.args.corrections.now) parts latest)
    ∙ sym (ap (λ (h : History). traced_rate p h c.args.row.now) parts)
