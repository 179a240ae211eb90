use Rattle.std.proofs.Common.{◌*◌, ◌<◌, ◌≤◌, ◌/◌, ◌∙◌, arith, sym}
use Rattle.fr_coverage.specs.Flutter.{fluttering_in}
use Rattle.fr_coverage.proofs.Flutters.{turns-on}
use Rattle.fr_coverage.proofs.Told.{told-start}
use Rattle.fr_coverage.proofs.fluttering.told_turn.Goals as goal

pub loop-cycle-init : goal.loop-cycle-init
loop-cycle-init c =
    let least = c.first_cycle-cycle.ensures.least in
    let most = c.first_cycle-cycle.ensures.most in
    record {
      within = omega arith;
      behind = λ lt. let is = c.first_cycle-cycle.ensures.is (omega arith) in omega arith;
      value = sym (told-start (fluttering_in c.args.drift.now c.args.sender c.args.receiver c.args.channel) c.args.from (c.first_cycle-cycle.result / 2) (omega arith));
      most = tt;
    }

pub loop-cycle-preserved : goal.loop-cycle-preserved
loop-cycle-preserved c =
    let after : c.loop-cycle.cycle < c.next_delay-cycle.result = c.next_delay-cycle.ensures.next.after in
    let end : c.next_delay-cycle.result ≤ c.cycles-end.result = c.next_delay-cycle.ensures.next.within in
    let low : 2 * c.args.from ≤ c.loop-cycle.cycle = c.loop-cycle.invariant.behind (omega (arith, c.cycles-end.ensures.value)) in
    record {
      within = omega (arith, c.cycles-end.ensures.value);
      behind = λ lt. omega arith;
      value =
          c.told_of_two-told.ensures.value
          ∙ turns-on c.args.drift.now c.args.sender c.args.receiver c.args.channel c.args.from c.loop-cycle.cycle c.next_delay-cycle.result c.loop-cycle.told c.turn.result
          after low c.loop-cycle.invariant.value c.turn.ensures.odd c.turn.ensures.even c.next_delay-cycle.ensures.stays;
      most = c.told_of_two-told.ensures.most;
    }
