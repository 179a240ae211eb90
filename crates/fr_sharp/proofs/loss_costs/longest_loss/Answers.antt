use Rattle.std.proofs.Common.{◌≡◌, ◌∙◌, ℕ, true, false, ap, sym, arith, rules}
use Rattle.fr_bound.specs.SharpSpreads.{next_lost_spread}
use Rattle.fr_precision.specs.Among.{kinds_spread}
use Rattle.fr_precision.specs.declared.kinds.Kinds.{Kinds}
use Rattle.fr_sharp.specs.LossCosts.{limits_hold}
use Rattle.fr_bound.specs.SharpSpreads.{sharply_near_in}
use Rattle.fr_sharp.proofs.LossNumbers.{bears_further, bears_no_hundred, first_of, longest_by, never, never_heard, never_more, reach_of_row}
use Rattle.fr_sharp.proofs.loss_costs.longest_loss.Goals as goal

pub loop-count-init : goal.loop-count-init
loop-count-init c = record {
  spread = first_of c.args.params.now c.args.flutter never c.first-spread.result.spread (c.first-spread.ensures.spread never_heard);
  passed = c.first-spread.ensures.passed;
  all = λ k less. absurd (omega (arith, less));
}

pub returns-then-not-limits_hold-clause-is : goal.returns-then-not-limits_hold-clause-is
returns-then-not-limits_hold-clause-is c =
    let p = c.args.params.now in
    let t = c.args.flutter in
    let n = c.loop-count.count in
    let near : c.near.result ≡ reach_of_row p t n = c.near.ensures.value ∙ ap (sharply_near_in p) c.loop-count.invariant.spread in
    let fails : c.limits_hold.result ≡ false = search rules in
    let told : limits_hold t (reach_of_row p t n) p ≡ false = sym (ap (λ (r : ℕ). limits_hold t r p) near) ∙ sym c.limits_hold.ensures ∙ fails in
    longest_by p t n c.before-then-not-limits_hold.result c.value-macros.ensures.sane c.loop-count.invariant.all told c.before-then-not-limits_hold.ensures.none c.before-then-not-limits_hold.ensures.some

pub returns-then-not-limits_hold-clause-most : goal.returns-then-not-limits_hold-clause-most
returns-then-not-limits_hold-clause-most c = c.before-then-not-limits_hold.ensures.most

pub loop-count-preserved : goal.loop-count-preserved
loop-count-preserved c =
    let p = c.args.params.now in
    let t = c.args.flutter in
    let n = c.loop-count.count in
    let was = c.loop-count.invariant in
    let near : c.near.result ≡ reach_of_row p t n = c.near.ensures.value ∙ ap (sharply_near_in p) was.spread in
    let holds : c.limits_hold.result ≡ true = search rules in
    let told : limits_hold t (reach_of_row p t n) p ≡ true = sym (ap (λ (r : ℕ). limits_hold t r p) near) ∙ sym c.limits_hold.ensures ∙ holds in
    record {
      spread =
          c.step.ensures.spread ∙ ap (λ (what : Kinds). kinds_spread what p t c.loop-count.spread.spread) c.both.ensures
          ∙ ap (next_lost_spread false p t) was.spread ∙ never_more p t n;
      passed = omega (arith, c.step.ensures.passed, was.passed);
      all = bears_further p t n was.all told;
    }

pub unreachable-requires : goal.unreachable-requires
unreachable-requires c =
    bears_no_hundred c.args.params.now c.args.flutter c.value-macros.ensures.sane (c.loop-count.invariant.all 99 (omega (arith, c.loop-count-test.false)))
