use Rattle.std.proofs.Common.{◌≡◌, ◌∙◌, ◌<◌, ◌≤◌, arith}
use Rattle.fr_time.specs.Cycles.{double_cycle_of}
use Rattle.fr_sightings.specs.Senders.{sightings_in}
use Rattle.fr_findings.proofs.Missed.{missed-end, missed-first}
use Rattle.fr_findings.proofs.census.missed_between.Goals as goal

pub loop-double-preserved : goal.loop-double-preserved
loop-double-preserved c =
    let double = c.loop-double.double in
    let look = c.look_at-look in
    let a = c.args in
    let le : double ≤ double_cycle_of a.span.now.last = omega (arith, c.loop-double-test.true) in
    let here_is : look.result.here.now ≡ sightings_in a.seen.now double = look.ensures.here ∙ c.loop-double.invariant.same double (omega arith) in
    let first = missed-first a.span.now.first a.span.now.last a.seen.now a.node a.channel look.result.here.now double (double_cycle_of a.span.now.last) le here_is in
    record {
      from = look.ensures.from;
      ascend = look.ensures.ascend;
      same = λ later later_le. look.ensures.later later (omega (arith, later_le)) ∙ c.loop-double.invariant.same later (omega (arith, later_le));
      within = omega (arith, le);
      started = omega (arith, c.loop-double.invariant.started);
      few = omega (arith, c.loop-double.invariant.few, c.lacks_both-missed.ensures.most, c.loop-double.invariant.started);
      total = omega (arith, c.loop-double.invariant.total, first, c.lacks_both-missed.ensures.value);
    }

pub returns : goal.returns
returns c =
    let less : double_cycle_of c.args.span.now.last < c.loop-double.double = omega (arith, c.loop-double-test.false) in
    let none = missed-end c.args.span.now.first c.args.span.now.last c.args.seen.now c.args.node c.args.channel c.loop-double.double (double_cycle_of c.args.span.now.last) less in
    omega (arith, none, c.loop-double.invariant.total)
