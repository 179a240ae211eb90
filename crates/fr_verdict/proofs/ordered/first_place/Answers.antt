use Rattle.std.proofs.Common.{◌<◌, ◌+◌, length, arith}
use Rattle.fr_verdict.proofs.Receivers.{above_all, below_more}
use Rattle.fr_verdict.proofs.ordered.first_place.Goals as goal

pub loop-place-preserved : goal.loop-place-preserved
loop-place-preserved c =
    let within : c.loop-place.place < length c.args.devs.now = c.is_below.ensures.within c.loop-place-test.true in (
      omega arith,
      below_more c.args.devs.now c.args.receiver c.loop-place.place (c.loop-place.place + 1) c.requires (omega arith) within
          (c.is_below.ensures.below c.loop-place-test.true),
    )

pub returns-clause-above : goal.returns-clause-above
returns-clause-above c = above_all c.args.devs.now c.args.receiver c.loop-place.place c.requires (c.is_below.ensures.above c.loop-place-test.false)
