use Rattle.std.proofs.Common.{◌≡◌, ℕ, ◌∙◌, ap, refl}
use Rattle.fr_cluster.specs.Values.{Values}
use Rattle.fr_precision.specs.Among.{spread_through_losses}
use Rattle.fr_precision.specs.declared.kinds.Kinds.{Kinds}
use Rattle.fr_series.specs.Basis.{basis_of}
use Rattle.fr_series.proofs.Keeping.{held_first}
use Rattle.fr_series.proofs.kept.begin.Goals as goal

pub returns-clause-held : goal.returns-clause-held
returns-clause-held c =
    let w = c.args.world.now in
    let is : c.of-basis.result ≡ basis_of w.params w.drift w.script c.args.double =
    c.of-basis.ensures.value ∙ rw (c.params.ensures.value, c.drift.ensures.value, c.script.ensures.value) refl in
    held_first w.params w.drift w.script c.args.double c.of-basis.result c.first.result is c.of-basis.ensures.flutter c.first.ensures.passed
    (λ (what : ℕ → Kinds). c.first.ensures.spread what ∙ ap (λ (q : Values). spread_through_losses c.of-basis.result.beside q c.of-basis.result.flutter what 0) c.params-2.ensures.value)
