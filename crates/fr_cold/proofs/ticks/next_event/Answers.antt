use Rattle.std.proofs.Common.{◌∙◌, sym, arith}
use Rattle.fr_cold.specs.Node.{acts}
use Rattle.fr_cold.proofs.Steps.{quiet-all, quiet-more, quiet-none}
use Rattle.fr_cold.proofs.ticks.next_event.Goals as goal

pub loop-number-init : goal.loop-number-init
loop-number-init c = record {
  from = omega arith;
  low = c.next-next.ensures.from;
  high = c.next-next.ensures.to;
  quiet = quiet-none c.args.params.now c.args.power.now c.args.table.now c.args.tick c.next-next.result c.next-next.ensures.quiet;
}

pub quiet_before-next-requires-clause-order : goal.quiet_before-next-requires-clause-order
quiet_before-next-requires-clause-order c = c.loop-number.invariant.low

pub quiet_before-next-requires-clause-end : goal.quiet_before-next-requires-clause-end
quiet_before-next-requires-clause-end c = let high = c.loop-number.invariant.high in let end = c.requires.end in omega arith

pub loop-number-preserved : goal.loop-number-preserved
loop-number-preserved c =
    let p = c.args.params.now in
    let n = c.loop-number.number in
    let s = c.get.result in
    let high = c.loop-number.invariant.high in
    let to = c.quiet_before-next.ensures.to in record {
      from = omega arith;
      low = c.quiet_before-next.ensures.from;
      high = omega arith;
      quiet =
          quiet-more p c.args.power.now c.args.table.now c.args.tick c.loop-number.next c.quiet_before-next.result n s c.loop-number.invariant.quiet to c.get.ensures.value
          (λ t low below. (λ i. acts (sym c.cycle_length-cycle.ensures.value i) (sym c.action.ensures.value i) t s) ∙ c.quiet_before-next.ensures.quiet t low below);
    }

pub returns-clause-quiet : goal.returns-clause-quiet
returns-clause-quiet c =
    quiet-all c.args.params.now c.args.power.now c.args.table.now c.args.tick c.loop-number.next c.loop-number.number (omega arith) c.loop-number.invariant.quiet
