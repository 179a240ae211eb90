use Rattle.std.proofs.Common.{◌≡◌, ◌*◌, ◌<◌, ◌≤◌, arith, rules, sym, true, false}
use mir.Val.{to_z, of_z}
use mir.Syntax.{w64}
use Rattle.std.proofs.lemmas.Int.{to_z-of_z}
use Rattle.fr_coverage.specs.Coverage.{length_gap, how_many_cycles, is_off}
use Rattle.fr_coverage.proofs.First.{from-found, from-skip, from-start}
use Rattle.fr_coverage.proofs.Stretches.{length-found, length-quiet}
use Rattle.fr_coverage.proofs.spans.first_length.Goals as goal

pub loop-cycle-init : goal.loop-cycle-init
loop-cycle-init c =
    let least = c.first_cycle-cycle.ensures.least in
    let most = c.first_cycle-cycle.ensures.most in
    record { within = omega arith; behind = λ lt. let is = c.first_cycle-cycle.ensures.is (omega arith) in omega arith; none = from-start _ _ _ (omega arith) }

pub returns-then-is_off : goal.returns-then-is_off
returns-then-is_off c =
    let back : to_z w64 (of_z w64 c.length-ticks.result) ≡ c.length-ticks.result = to_z-of_z w64 c.length-ticks.result (search rules) in
    let off : is_off c.args.params.now c.length-ticks.result ≡ true = rw (← back) (search rules) in
    let below : c.loop-cycle.cycle < how_many_cycles c.args.drift.now = omega (arith, c.cycles-end.ensures.value) in
    rw back
    (sym (from-found (length_gap c.args.params.now c.args.drift.now c.args.node) (2 * c.args.from) c.loop-cycle.cycle (how_many_cycles c.args.drift.now) _ c.loop-cycle.invariant.none (c.loop-cycle.invariant.behind below)
    (length-found c.args.params.now c.args.drift.now c.args.node c.loop-cycle.cycle c.length-ticks.result c.length-ticks.ensures.value off) below))

pub loop-cycle-preserved : goal.loop-cycle-preserved
loop-cycle-preserved c =
    let back : to_z w64 (of_z w64 c.length-ticks.result) ≡ c.length-ticks.result = to_z-of_z w64 c.length-ticks.result (search rules) in
    let fine : is_off c.args.params.now c.length-ticks.result ≡ false = rw (← back) (search rules) in
    let after : c.loop-cycle.cycle < c.next_length-cycle.result = c.next_length-cycle.ensures.next.after in
    let end : c.next_length-cycle.result ≤ c.cycles-end.result = c.next_length-cycle.ensures.next.within in
    record {
      within = omega (arith, c.cycles-end.ensures.value);
      behind = λ lt. let low = c.loop-cycle.invariant.behind (omega (arith, c.cycles-end.ensures.value)) in omega arith;
      none =
          from-skip (length_gap c.args.params.now c.args.drift.now c.args.node) (2 * c.args.from) c.loop-cycle.cycle c.next_length-cycle.result c.loop-cycle.invariant.none (omega arith)
          (length-quiet c.args.params.now c.args.drift.now c.args.node c.loop-cycle.cycle c.next_length-cycle.result c.length-ticks.result
          c.length-ticks.ensures.value fine c.next_length-cycle.ensures.stays);
    }
