use Rattle.std.proofs.Common.{◌≡◌, ◌*◌, ◌<◌, ◌≤◌, arith, rules, sym, true, false}
use mir.Val.{to_z, of_z}
use mir.Syntax.{w64}
use Rattle.std.proofs.lemmas.Int.{to_z-of_z}
use Rattle.fr_coverage.specs.Coverage.{delay_gap, how_many_cycles, is_wrong}
use Rattle.fr_coverage.proofs.First.{from-found, from-skip, from-start}
use Rattle.fr_coverage.proofs.Stretches.{delay-found, delay-quiet}
use Rattle.fr_coverage.proofs.spans.first_delay.Goals as goal

pub loop-cycle-init : goal.loop-cycle-init
loop-cycle-init c =
    let least = c.first_cycle-cycle.ensures.least in
    let most = c.first_cycle-cycle.ensures.most in
    record { within = omega arith; behind = λ lt. let is = c.first_cycle-cycle.ensures.is (omega arith) in omega arith; none = from-start _ _ _ (omega arith) }

pub returns-then-is_wrong : goal.returns-then-is_wrong
returns-then-is_wrong c =
    let back : to_z w64 (of_z w64 c.delay-ticks.result) ≡ c.delay-ticks.result = to_z-of_z w64 c.delay-ticks.result (search rules) in
    let off : is_wrong c.args.params.now c.args.channel c.delay-ticks.result ≡ true = rw (← back) (search rules) in
    let below : c.loop-cycle.cycle < how_many_cycles c.args.drift.now = omega (arith, c.cycles-end.ensures.value) in
    rw back
    (sym (from-found (delay_gap c.args.params.now c.args.drift.now c.args.sender c.args.receiver c.args.channel) (2 * c.args.from) c.loop-cycle.cycle (how_many_cycles c.args.drift.now) _ c.loop-cycle.invariant.none (c.loop-cycle.invariant.behind below)
    (delay-found c.args.params.now c.args.drift.now c.args.sender c.args.receiver c.args.channel c.loop-cycle.cycle c.delay-ticks.result c.delay-ticks.ensures.value off) below))

pub loop-cycle-preserved : goal.loop-cycle-preserved
loop-cycle-preserved c =
    let back : to_z w64 (of_z w64 c.delay-ticks.result) ≡ c.delay-ticks.result = to_z-of_z w64 c.delay-ticks.result (search rules) in
    let fine : is_wrong c.args.params.now c.args.channel c.delay-ticks.result ≡ false = rw (← back) (search rules) in
    let after : c.loop-cycle.cycle < c.next_delay-cycle.result = c.next_delay-cycle.ensures.next.after in
    let end : c.next_delay-cycle.result ≤ c.cycles-end.result = c.next_delay-cycle.ensures.next.within in
    record {
      within = omega (arith, c.cycles-end.ensures.value);
      behind = λ lt. let low = c.loop-cycle.invariant.behind (omega (arith, c.cycles-end.ensures.value)) in omega arith;
      none =
          from-skip (delay_gap c.args.params.now c.args.drift.now c.args.sender c.args.receiver c.args.channel) (2 * c.args.from) c.loop-cycle.cycle c.next_delay-cycle.result c.loop-cycle.invariant.none (omega arith)
          (delay-quiet c.args.params.now c.args.drift.now c.args.sender c.args.receiver c.args.channel c.loop-cycle.cycle c.next_delay-cycle.result c.delay-ticks.result
          c.delay-ticks.ensures.value fine c.next_delay-cycle.ensures.stays);
    }
