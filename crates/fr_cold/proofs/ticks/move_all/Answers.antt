use Rattle.std.proofs.Common.{◌∙◌, arith}
use Rattle.fr_cold.specs.Cluster.{moved_states}
use Rattle.fr_cold.specs.Node.{heard, sent}
use Rattle.fr_cold.specs.StartupLaws.{IsNumber}
use Rattle.fr_cold.proofs.Steps.{done-all, done-more, done-none, moved-is}
use Rattle.fr_cold.proofs.ticks.move_all.Goals as goal

pub loop-number-init : goal.loop-number-init
loop-number-init c = record {
  from = omega arith;
  done = λ states agrees. done-none (moved_states c.args.params.now c.args.tick states) states c.args.table.now agrees;
}

pub loop-number-preserved : goal.loop-number-preserved
loop-number-preserved c =
    let p = c.args.params.now in
    let t = c.args.tick in
    let n = c.loop-number.number in
    let from = c.loop-number.invariant.from in
    let number : IsNumber n = record { from = from; to = omega arith } in record {
      from = omega arith;
      done = λ states agrees.
          let done = c.loop-number.invariant.done states agrees in
          done-more (moved_states p t states) states c.loop-number.table _ n c.moved.result c.set.ensures
          (c.moved.ensures.value
          ∙ (λ i. heard (c.is_hearing-hears.ensures i) t (sent (c.cycle_length-cycle.ensures.value i) t c.get-state.result))
          ∙ moved-is p t states n c.get-state.result c.is_busy-busy_a.result c.is_busy-busy_b.result (c.get-state.ensures.value ∙ done.rest n number (omega arith))
          (c.is_busy-busy_a.ensures states agrees) (c.is_busy-busy_b.ensures states agrees))
          done;
    }

pub returns : goal.returns
returns c = λ states agrees. done-all (moved_states c.args.params.now c.args.tick states) states c.loop-number.table c.loop-number.number (omega arith) (c.loop-number.invariant.done states agrees)
