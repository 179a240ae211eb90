use Rattle.std.proofs.Common.{◌∙◌, arith}
use Rattle.fr_cold.specs.Cluster.{states_at}
use Rattle.fr_cold.specs.Node.{resolved, switched}
use Rattle.fr_cold.specs.StartupLaws.{IsNumber}
use Rattle.fr_cold.specs.Questions.{switches_of}
use Rattle.fr_cold.specs.Events.{ready_at}
use Rattle.fr_cold.proofs.Steps.{done-all, done-more, done-none, ready-is}
use Rattle.fr_cold.proofs.ticks.make_ready.Goals as goal

pub loop-number-init : goal.loop-number-init
loop-number-init c = record {
  from = omega arith;
  done = done-none (ready_at c.args.params.now c.args.power.now c.args.tick) (states_at c.args.params.now (switches_of c.args.params.now c.args.power.now) c.args.tick) c.args.table.now c.requires.stands;
}

pub loop-number-preserved : goal.loop-number-preserved
loop-number-preserved c =
    let p = c.args.params.now in
    let v = c.args.power.now in
    let t = c.args.tick in
    let n = c.loop-number.number in
    let from = c.loop-number.invariant.from in
    let number : IsNumber n = record { from = from; to = omega arith } in record {
      from = omega arith;
      done =
          done-more (ready_at p v t) (states_at p (switches_of p v) t) c.loop-number.table _ n c.ready.result c.set.ensures
          (c.ready.ensures.value
          ∙ (λ i. resolved (c.cycle_length-cycle.ensures.value i) t (switched (c.switch_of-switch.ensures i) t c.get.result))
          ∙ ready-is p v t n c.get.result (c.get.ensures.value ∙ c.loop-number.invariant.done.rest n number (omega arith)))
          c.loop-number.invariant.done;
    }

pub returns : goal.returns
returns c =
    let p = c.args.params.now in
    let v = c.args.power.now in
    done-all (ready_at p v c.args.tick) (states_at p (switches_of p v) c.args.tick) c.loop-number.table c.loop-number.number (omega arith) c.loop-number.invariant.done
