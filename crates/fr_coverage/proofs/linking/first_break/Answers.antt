use Rattle.std.proofs.Common.{◌+◌, ◌*◌, ◌≤◌, ◌/◌, arith, rules, sym}
use Rattle.fr_coverage.specs.Links.{link_gap}
use Rattle.fr_coverage.proofs.First.{from-found, from-skip, from-start}
use Rattle.fr_coverage.proofs.Breaks.{broken, unbroken}
use Rattle.fr_coverage.proofs.linking.first_break.Goals as goal

pub loop-double-init : goal.loop-double-init
loop-double-init c = record { within = grind arith; behind = λ lt. grind arith; none = from-start _ _ _ (grind arith) }

pub returns-then-not-is_carried : goal.returns-then-not-is_carried
returns-then-not-is_carried c =
    sym (from-found (link_gap c.args.script.now c.args.sender.now c.args.receiver.now) c.args.from c.loop-double.double c.args.doubles _ c.loop-double.invariant.none
    (c.loop-double.invariant.behind (omega arith))
    (broken c.args.script.now c.args.sender.now c.args.receiver.now c.loop-double.double (search rules)) (omega arith))

pub loop-double-preserved : goal.loop-double-preserved
loop-double-preserved c =
    let from : 2 * c.loop-double.double + 2 ≤ c.next_deed-double.result = c.next_deed-double.ensures.from in
    let to : c.next_deed-double.result ≤ 2 * c.args.doubles = c.next_deed-double.ensures.to in
    record {
      within = omega arith;
      behind = λ lt. let low = c.loop-double.invariant.behind (omega arith) in omega arith;
      none =
          from-skip (link_gap c.args.script.now c.args.sender.now c.args.receiver.now) c.args.from c.loop-double.double (c.next_deed-double.result / 2)
          c.loop-double.invariant.none (omega arith)
          (unbroken c.args.script.now c.args.sender.now c.args.receiver.now c.loop-double.double c.next_deed-double.result c.requires.correct (search rules)
          (λ k ch low high. c.next_deed-double.ensures.quiet k low high ch));
    }
