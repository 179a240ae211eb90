use Rattle.std.proofs.Common.{◌≡◌, ◌≤◌, ◌<◌, ◌+◌, ◌-◌, ◌∙◌, ap, sym, arith, ℕ, Bool, true, false}
use Rattle.fr_cold.specs.ColdText.{one_more, starters_up_to}
use Rattle.fr_cold.proofs.Texts.{starters-more, starters-none}
use Rattle.fr_cold.proofs.connected.starter_count.Goals as goal

least : (b : Bool) (count number : ℕ) → count < number → one_more b count < number + 1
least true count number less = omega arith
least false count number less = omega arith

pub loop-number-init : goal.loop-number-init
loop-number-init c = record { from = omega arith; few = omega arith; count = sym (starters-none c.args.params.now) }

pub one_more-count-requires : goal.one_more-count-requires
one_more-count-requires c = let few = c.loop-number.invariant.few in omega arith

pub loop-number-preserved : goal.loop-number-preserved
loop-number-preserved c =
    let from = c.loop-number.invariant.from in
    let value : c.one_more-count.result ≡ one_more c.is_coldstart.result c.loop-number.count = c.one_more-count.ensures in
    let less = least c.is_coldstart.result c.loop-number.count c.loop-number.number c.loop-number.invariant.few in record {
      from = omega arith;
      few = omega (arith, value, less);
      count =
          value ∙ ap (λ (b : Bool). one_more b c.loop-number.count) c.is_coldstart.ensures
          ∙ starters-more c.args.params.now c.loop-number.number c.loop-number.count from c.loop-number.invariant.count;
    }

pub returns : goal.returns
returns c =
    let all : c.loop-number.number - 1 ≡ 64 = omega arith in
    c.loop-number.invariant.count ∙ ap (λ (n : ℕ). starters_up_to c.args.params.now n) all
