use Rattle.std.proofs.Common.{◌≡◌, ◌∙◌, sym, rules}
use mir.Val.{to_z, of_z}
use mir.Syntax.{w32}
use Rattle.std.proofs.lemmas.Int.{to_z-of_z}
use Rattle.fr_drift.proofs.Limits.{start-within, zero-within}
use Rattle.fr_drift.proofs.drift.Drift.rate.Goals as goal

pub returns-in-Some-clause-limited : goal.returns-in-Some-clause-limited
returns-in-Some-clause-limited c = λ p sane fits.
    let back : to_z w32 (of_z w32 c.in-Some.start.rate) ≡ c.in-Some.start.rate = to_z-of_z w32 c.in-Some.start.rate (search rules) in
    rw back (start-within p c.args.node c.in-Some.start fits.records fits.none_refused (sym (fits.stands.starts c.args.node) ∙ sym c.in-Some.ensures.told))

pub returns-in-None-clause-limited : goal.returns-in-None-clause-limited
returns-in-None-clause-limited c = λ p sane fits. zero-within p sane
