use Rattle.std.proofs.Common.{◌≡◌, ◌∙◌, ◌-◌, ap, sym, arith, Bool, ℕ}
use Rattle.std.specs.Prelude.{◌||◌}
use Rattle.fr_cold.specs.Cluster.{is_busy}
use Rattle.fr_cold.specs.StartupLaws.{IsNumber}
use Rattle.fr_cold.proofs.Steps.{busy-more, busy-none}
use Rattle.fr_cold.proofs.ticks.is_busy.Goals as goal

pub loop-number-init : goal.loop-number-init
loop-number-init c = record { from = omega arith; busy = λ states agrees. sym (busy-none c.args.params.now c.args.tick states c.args.channel) }

pub loop-number-preserved : goal.loop-number-preserved
loop-number-preserved c =
    let from = c.loop-number.invariant.from in record {
      from = omega arith;
      busy = λ states agrees.
          let number : IsNumber c.loop-number.number = record { from = from; to = omega arith } in
          c.either-busy.ensures
          ∙ ap (λ (b : Bool). c.loop-number.busy || b) c.is_sending_on.ensures
          ∙ busy-more c.args.params.now c.args.tick states c.args.channel c.loop-number.number c.loop-number.busy c.get.result from (c.loop-number.invariant.busy states agrees)
          (c.get.ensures.value ∙ agrees c.loop-number.number number);
    }

pub returns : goal.returns
returns c = λ states agrees.
    let all : c.loop-number.number - 1 ≡ 64 = omega arith in
    c.loop-number.invariant.busy states agrees ∙ ap (λ (n : ℕ). is_busy c.args.params.now c.args.tick states c.args.channel n) all
