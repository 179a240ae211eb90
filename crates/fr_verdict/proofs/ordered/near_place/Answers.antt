use Rattle.std.proofs.Common.{◌<◌, ◌+◌, length, arith}
use Rattle.fr_verdict.proofs.Receivers.{below_more}
use Rattle.fr_verdict.proofs.ordered.near_place.Goals as goal

pub loop-place-preserved : goal.loop-place-preserved
loop-place-preserved c =
    let within : c.loop-place.place + 8 < length c.args.devs.now = c.is_below.ensures.within c.loop-place-test.true in (
      omega arith,
      below_more c.args.devs.now c.args.receiver (c.loop-place.place + 8) (c.loop-place.place + 8) c.requires (omega arith) within
          (c.is_below.ensures.below c.loop-place-test.true),
    )
