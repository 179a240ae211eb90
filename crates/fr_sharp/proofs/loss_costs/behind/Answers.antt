use Rattle.std.proofs.Common.{◌≡◌, ◌∙◌, ℕ, false, ap, sym, arith}
use Rattle.fr_bound.specs.SharpSpreads.{next_lost_spread}
use Rattle.fr_precision.specs.Among.{kinds_spread, lost_spread}
use Rattle.fr_precision.specs.declared.kinds.Kinds.{Kinds}
use Rattle.fr_sharp.proofs.LossNumbers.{first_of, never, never_heard, never_more, same_yet}
use Rattle.fr_sharp.proofs.loss_costs.behind.Goals as goal

pub loop-double-init : goal.loop-double-init
loop-double-init c = record {
  spread = first_of c.args.params.now c.args.flutter never c.first-spread.result.spread (c.first-spread.ensures.spread never_heard);
  passed = c.first-spread.ensures.passed;
}

pub loop-double-preserved : goal.loop-double-preserved
loop-double-preserved c =
    let p = c.args.params.now in
    let was = c.loop-double.invariant in
    record {
      spread =
          c.step.ensures.spread ∙ ap (λ (what : Kinds). kinds_spread what p c.args.flutter c.loop-double.spread.spread) c.both.ensures
          ∙ ap (next_lost_spread false p c.args.flutter) was.spread ∙ never_more p c.args.flutter c.loop-double._double;
      passed = omega (arith, c.step.ensures.passed, was.passed);
    }

pub returns-clause-spread : goal.returns-clause-spread
returns-clause-spread c =
    let p = c.args.params.now in
    let end : c.loop-double._double ≡ c.args.count = omega (arith, c.loop-double.auto._double-end, c.loop-double-test.false) in
    c.loop-double.invariant.spread ∙ ap (λ (n : ℕ). lost_spread p c.args.flutter never n) end ∙ sym (same_yet p c.args.flutter c.args.count c.args.count (omega arith))

pub returns-clause-passed : goal.returns-clause-passed
returns-clause-passed c =
    let end : c.loop-double._double ≡ c.args.count = omega (arith, c.loop-double.auto._double-end, c.loop-double-test.false) in
    c.loop-double.invariant.passed ∙ end
