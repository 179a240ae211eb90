use Rattle.std.proofs.Common.{◌≡◌, suc, ◌*◌, ◌-◌, ◌<◌, ◌≤◌, arith, rules, sym, ap, ◌∙◌, true, false}
use Rattle.std.specs.Prelude.{◌-ℤ◌}
use mir.Val.{to_z, of_z}
use mir.Syntax.{w64}
use Rattle.std.proofs.lemmas.Int.{to_z-of_z}
use Rattle.fr_drift.specs.Questions.{length_of}
use Rattle.fr_coverage.specs.Coverage.{change_gap, has_jumped, how_many_cycles}
use Rattle.fr_coverage.proofs.First.{from-found, from-skip, from-start}
use Rattle.fr_coverage.proofs.Stretches.{change-found, change-quiet}
use Rattle.fr_coverage.proofs.spans.first_change.Goals as goal

pub loop-cycle-init : goal.loop-cycle-init
loop-cycle-init c =
    let least = c.first_cycle.ensures.least in
    let most = c.first_cycle.ensures.most in
    record { within = grind arith; behind = λ lt. let is = c.first_cycle.ensures.is (grind arith) in grind arith; none = from-start _ _ _ (grind arith) }

pub returns-then-has_jumped : goal.returns-then-has_jumped
returns-then-has_jumped c =
    let late : to_z w64 (of_z w64 c.length-ticks.result) ≡ c.length-ticks.result = to_z-of_z w64 c.length-ticks.result (search rules) in
    let early : to_z w64 (of_z w64 c.length-before.result) ≡ c.length-before.result = to_z-of_z w64 c.length-before.result (search rules) in
    let less : to_z w64 (of_z w64 (c.length-ticks.result -ℤ c.length-before.result)) ≡ c.length-ticks.result -ℤ c.length-before.result = to_z-of_z w64 (c.length-ticks.result -ℤ c.length-before.result) (search rules) in
    let jumped : has_jumped c.args.params.now c.length-before.result c.length-ticks.result ≡ true = rw (← late, ← early) (search rules) in
    let before : c.length-before.result ≡ length_of c.args.drift.now c.args.node (c.loop-cycle.cycle - 1) =
    c.length-before.ensures.value ∙ ap (length_of c.args.drift.now c.args.node) c.saturating_sub.ensures in
    let below : c.loop-cycle.cycle < how_many_cycles c.args.drift.now = omega (arith, c.cycles-end.ensures.value) in
    rw (late, early, less)
    (sym (from-found (change_gap c.args.params.now c.args.drift.now c.args.node) (suc (2 * c.args.from)) c.loop-cycle.cycle (how_many_cycles c.args.drift.now) _ c.loop-cycle.invariant.none (c.loop-cycle.invariant.behind below)
    (change-found c.args.params.now c.args.drift.now c.args.node c.loop-cycle.cycle c.length-before.result c.length-ticks.result before c.length-ticks.ensures.value jumped) below))

pub loop-cycle-preserved : goal.loop-cycle-preserved
loop-cycle-preserved c =
    let before : c.length-before.result ≡ length_of c.args.drift.now c.args.node (c.loop-cycle.cycle - 1) =
    c.length-before.ensures.value ∙ ap (length_of c.args.drift.now c.args.node) c.saturating_sub.ensures in
    let late : to_z w64 (of_z w64 c.length-ticks.result) ≡ c.length-ticks.result = to_z-of_z w64 c.length-ticks.result (search rules) in
    let early : to_z w64 (of_z w64 c.length-before.result) ≡ c.length-before.result = to_z-of_z w64 c.length-before.result (search rules) in
    let still : has_jumped c.args.params.now c.length-before.result c.length-ticks.result ≡ false = rw (← late, ← early) (search rules) in
    let after : c.loop-cycle.cycle < c.next_length-cycle.result = c.next_length-cycle.ensures.next.after in
    let end : c.next_length-cycle.result ≤ c.cycles-end.result = c.next_length-cycle.ensures.next.within in
    record {
      within = omega (arith, c.cycles-end.ensures.value);
      behind = λ lt. let low = c.loop-cycle.invariant.behind (omega (arith, c.cycles-end.ensures.value)) in omega arith;
      none =
          from-skip (change_gap c.args.params.now c.args.drift.now c.args.node) (suc (2 * c.args.from)) c.loop-cycle.cycle c.next_length-cycle.result c.loop-cycle.invariant.none (omega arith)
          (change-quiet c.args.params.now c.args.drift.now c.args.node c.loop-cycle.cycle c.next_length-cycle.result c.length-before.result c.length-ticks.result
          before c.length-ticks.ensures.value still c.next_length-cycle.ensures.stays);
    }
