use Rattle.std.proofs.Common.{◌≡◌, Option, ◌+◌, ◌∙◌, ap, sym, subst}
use Rattle.fr_cluster.specs.Values.{Values}
use Rattle.fr_precision.specs.Among.{kinds_spread}
use Rattle.fr_sharp.specs.LossSteps.{heard_apart}
use Rattle.fr_series.specs.SharpLosses.{bound_since, from_of, IsHeldSince, IsHeldBy}
use Rattle.fr_series.specs.declared.basis.Basis.{Basis}
use Rattle.fr_series.proofs.Keeping.{held_bound, held_more}
use Rattle.fr_series.proofs.kept.next_bound.Goals as goal

pub returns-in-Some-clause-bound : goal.returns-in-Some-clause-bound
returns-in-Some-clause-bound c =
    let w = c.args.world.now in
    let b : Basis = c.in-Some.basis in
    let H : Option Basis → Type 0 = λ o. IsHeldSince w.params w.drift w.script c.args.double o c.args.spread.now in
    let held : IsHeldBy w.params w.drift w.script c.args.double b c.args.spread.now = subst H c.in-Some.is c.requires.held in
    let far : c.apart-apart.result ≡ heard_apart c.args.heard w.params b.flutter c.args.spread.now.spread =
    c.apart-apart.ensures.value ∙ ap (λ (q : Values). heard_apart c.args.heard q b.flutter c.args.spread.now.spread) c.params.ensures.value in
    held_bound w.params w.drift w.script c.args.double b c.args.spread.now c.args.heard held c.requires.heard c.apart-apart.result c.bound_of.result far c.bound_of.ensures
    ∙ ap (λ (o : Option Basis). bound_since w.params w.drift w.script (from_of o) c.args.double) (sym c.in-Some.is)

pub returns-in-Some-clause-held : goal.returns-in-Some-clause-held
returns-in-Some-clause-held c =
    let w = c.args.world.now in
    let b : Basis = c.in-Some.basis in
    let H : Option Basis → Type 0 = λ o. IsHeldSince w.params w.drift w.script c.args.double o c.args.spread.now in
    let G : Option Basis → Type 0 = λ o. IsHeldSince w.params w.drift w.script (c.args.double + 1) o c.step.new.self in
    let held : IsHeldBy w.params w.drift w.script c.args.double b c.args.spread.now = subst H c.in-Some.is c.requires.held in
    subst G (sym c.in-Some.is)
    (held_more w.params w.drift w.script c.args.double b c.args.spread.now c.args.heard held c.requires.heard c.step.new.self c.step.ensures.passed
    (c.step.ensures.spread ∙ ap (λ (q : Values). kinds_spread c.args.heard q b.flutter c.args.spread.now.spread) c.params-in-Some.ensures.value))
