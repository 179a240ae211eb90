use Rattle.std.proofs.Common.{◌∙◌, Option, sym, ap}
use Rattle.fr_course.specs.Readings.{Interval}
use Rattle.fr_course.specs.Middles.{hull, middle_missing}
use Rattle.fr_course.proofs.Middling.{middle_missing-more, middle_missing-none}
use Rattle.fr_course.proofs.middles.middle_missing.Goals as goal

pub loop-less-init : goal.loop-less-init
loop-less-init c = (
  λ known lows highs. c.middle_with-all.ensures.value known lows highs ∙ sym (middle_missing-none c.args.missed known),
  c.middle_with-all.ensures.near,
)

pub loop-less-preserved : goal.loop-less-preserved
loop-less-preserved c = (
  λ known lows highs. c.hull-all.ensures.value
      ∙ ap (λ (so_far : Option Interval). hull so_far c.middle_with.result) (c.loop-less.invariant.0 known lows highs)
      ∙ ap (hull (middle_missing c.loop-less.less c.args.missed known)) (c.middle_with.ensures.value known lows highs)
      ∙ sym (middle_missing-more c.loop-less.less c.args.missed known),
  c.hull-all.ensures.near,
)
