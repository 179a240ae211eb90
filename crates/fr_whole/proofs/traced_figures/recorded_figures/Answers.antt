use Rattle.std.proofs.Common.{◌≡◌, ◌<◌, ◌+◌, ◌*◌, ◌∙◌, ℕ, ap, sym, subst, arith}
use Rattle.fr_series.specs.Basis.{sharp_scale_of}
use Rattle.fr_trace.specs.Cycles.{kept_of}
use Rattle.fr_trace.specs.declared.trace.TracedCycle.{TracedCycle}
use Rattle.fr_verdict.specs.Sound.{IsSound}
use Rattle.fr_whole.proofs.TracedDoubles.{both_there, figures_all, figures_more, figures_none}
use Rattle.fr_whole.proofs.traced_figures.recorded_figures.Goals as goal

pub loop-double-init : goal.loop-double-init
loop-double-init c = figures_none c.args.beside c.args.params.now c.args.trace.now c.sound_cycles-cycles.result.now c.none-figures.result c.none-figures.ensures

pub bounds-cycles-double : goal.bounds-cycles-double
bounds-cycles-double c =
    let within = both_there c.args.trace.now c.sound_cycles-cycles.result.now c.loop-double.double c.doubles-double-end.ensures.sane c.sound_cycles-cycles.ensures.history
    (subst (λ (n : ℕ). c.loop-double.double < n) c.doubles-double-end.ensures.value c.loop-double-test.true) in
    omega (arith, within)

pub bounds-cycles-double-in-loop-double : goal.bounds-cycles-double-in-loop-double
bounds-cycles-double-in-loop-double c =
    both_there c.args.trace.now c.sound_cycles-cycles.result.now c.loop-double.double c.doubles-double-end.ensures.sane c.sound_cycles-cycles.ensures.history
    (subst (λ (n : ℕ). c.loop-double.double < n) c.doubles-double-end.ensures.value c.loop-double-test.true)

pub with_double-figures-requires-clause-even : goal.with_double-figures-requires-clause-even
with_double-figures-requires-clause-even c =
    let within = both_there c.args.trace.now c.sound_cycles-cycles.result.now c.loop-double.double c.doubles-double-end.ensures.sane c.sound_cycles-cycles.ensures.history
    (subst (λ (n : ℕ). c.loop-double.double < n) c.doubles-double-end.ensures.value c.loop-double-test.true) in
    subst (λ (cycle : TracedCycle). IsSound c.args.params.now (kept_of cycle)) (sym c.index-cycles-double.is)
    (c.sound_cycles-cycles.ensures.sound (2 * c.loop-double.double) c.index-cycles-double.result (omega (arith, within)))

pub with_double-figures-requires-clause-odd : goal.with_double-figures-requires-clause-odd
with_double-figures-requires-clause-odd c =
    subst (λ (cycle : TracedCycle). IsSound c.args.params.now (kept_of cycle)) (sym c.index-cycles-double-in-loop-double.is)
    (c.sound_cycles-cycles.ensures.sound (2 * c.loop-double.double + 1) c.index-cycles-double-in-loop-double.result
    (both_there c.args.trace.now c.sound_cycles-cycles.result.now c.loop-double.double c.doubles-double-end.ensures.sane c.sound_cycles-cycles.ensures.history
    (subst (λ (n : ℕ). c.loop-double.double < n) c.doubles-double-end.ensures.value c.loop-double-test.true)))

pub loop-double-preserved : goal.loop-double-preserved
loop-double-preserved c =
    figures_more c.args.beside c.args.params.now c.args.trace.now c.sound_cycles-cycles.result.now c.loop-double.double c.index-cycles-double.result c.index-cycles-double-in-loop-double.result c.sharp_scale-scale.result c.args.synced
    c.loop-double.figures c.with_double-figures.result c.sound_cycles-cycles.ensures.history
    (both_there c.args.trace.now c.sound_cycles-cycles.result.now c.loop-double.double c.doubles-double-end.ensures.sane c.sound_cycles-cycles.ensures.history
    (subst (λ (n : ℕ). c.loop-double.double < n) c.doubles-double-end.ensures.value c.loop-double-test.true))
    c.index-cycles-double.is c.index-cycles-double-in-loop-double.is (c.sharp_scale-scale.ensures.value ∙ ap (sharp_scale_of c.args.beside c.args.params.now) c.recorded_flutter.ensures.value) c.requires.synced c.loop-double.invariant c.with_double-figures.ensures

pub returns : goal.returns
returns c =
    let value = c.doubles-double-end.ensures.value in
    let end : c.loop-double.double ≡ c.args.trace.now.doubles = omega (arith, value, c.loop-double.auto.double-end, c.loop-double-test.false) in
    figures_all c.args.beside c.args.params.now c.args.trace.now c.sound_cycles-cycles.result.now c.loop-double.double c.loop-double.figures c.doubles-double-end.ensures.sane c.sound_cycles-cycles.ensures.history end
    c.loop-double.invariant
